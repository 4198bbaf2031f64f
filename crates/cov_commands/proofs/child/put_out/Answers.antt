use Rattle.cov_commands.specs.Child.{child_duty}
use Rattle.cov_commands.proofs.Calls.{runs-due, runs-nothing}
use Rattle.cov_commands.proofs.Children.{child-lawful}
use Rattle.cov_commands.proofs.child.put_out.Goals as goal

pub returns-in-Ok : goal.returns-in-Ok
returns-in-Ok g c = runs-due (child_duty c.args.command.now) _ _ _ _ _ _ c.in-Ok.due c.put_due.result c.in-Ok.ensures c.put_due.ensures

pub returns-in-Err : goal.returns-in-Err
returns-in-Err g c = runs-nothing (child_duty c.args.command.now) _ _ _ _ c.in-Err.ended (child-lawful c.args.command.now) c.in-Err.ensures
