use Rattle.cov_attach.proofs.Parts.{tells_runs}
use Rattle.cov_attach.proofs.many.attach_all.Goals as goal

pub returns-clause-runs : goal.returns-clause-runs
returns-clause-runs g c = λ all told. tells_runs g.L.Link.state g.L.Link.faults _ c.args.takes _ _ all _ c.run_part.ensures told
