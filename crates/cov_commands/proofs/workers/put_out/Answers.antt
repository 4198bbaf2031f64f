use Rattle.cov_commands.specs.Collect.{collect_duty, collect_reader}
use Rattle.cov_commands.proofs.Calls.{runs-due, runs-nothing}
use Rattle.cov_commands.proofs.Collects.{gives-collect}
use Rattle.cov_commands.proofs.Tools.{lawful}
use Rattle.cov_commands.proofs.workers.put_out.Goals as goal

pub returns-in-Ok : goal.returns-in-Ok
returns-in-Ok g c = runs-due (collect_duty c.args.command.now) _ _ _ _ _ _ c.in-Ok.due c.put_due.result (gives-collect _ _ _ _ _ c.as_text.ensures c.in-Ok.ensures) c.put_due.ensures

pub returns-in-Err : goal.returns-in-Err
returns-in-Err g c = runs-nothing (collect_duty c.args.command.now) _ _ _ _ c.in-Err.ended (lawful (collect_reader c.args.command.now.folder)) (gives-collect _ _ _ _ _ c.as_text.ensures c.in-Err.ensures)
