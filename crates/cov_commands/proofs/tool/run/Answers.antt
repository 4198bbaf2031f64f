use Rattle.cov_commands.specs.Tool.{tool_duty}
use Rattle.cov_commands.proofs.Calls.{runs-due, runs-nothing}
use Rattle.cov_commands.proofs.Tools.{tool-lawful}
use Rattle.cov_commands.proofs.tool.run.Goals as goal

pub returns-in-Ok : goal.returns-in-Ok
returns-in-Ok g c = runs-due (tool_duty c.args.command.now) _ _ _ _ _ _ c.in-Ok.due c.put_due.result c.in-Ok.ensures c.put_due.ensures

pub returns-in-Err : goal.returns-in-Err
returns-in-Err g c = runs-nothing (tool_duty c.args.command.now) _ _ _ _ c.in-Err.ended (tool-lawful c.args.command.now) c.in-Err.ensures
