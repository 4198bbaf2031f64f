use Rattle.cov_links.specs.Together.{telling}
use Rattle.cov_commands.proofs.Calls.{runs-due, runs-nothing}
use Rattle.cov_live.specs.Attaching.{attach_duty}
use Rattle.cov_live.proofs.Attached.{attach-lawful}
use Rattle.cov_live.proofs.live.attach_out.Goals as goal

pub returns-in-Ok : goal.returns-in-Ok
returns-in-Ok g c =
    runs-due (attach_duty (telling g.N.Link.Link.state g.N.Link.Link.faults) c.args.places.now c.args.takes) _ _ _ _ _ _ c.in-Ok.due c.put_due.result c.in-Ok.ensures c.put_due.ensures

pub returns-in-Err : goal.returns-in-Err
returns-in-Err g c =
    let tells = telling g.N.Link.Link.state g.N.Link.Link.faults in
    runs-nothing (attach_duty tells c.args.places.now c.args.takes) _ _ _ _ c.in-Err.ended (attach-lawful tells c.args.places.now c.args.takes) c.in-Err.ensures
