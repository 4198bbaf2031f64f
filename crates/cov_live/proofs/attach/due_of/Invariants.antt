use Rattle.cov_live.specs.Adding.{sums_of}
use Rattle.cov_live.specs.Attaching.{take_paths, take_readings}
use Rattle.cov_live.proofs.Summed.{FromSession}
use Rattle.cov_live.proofs.attach.due_of.Given as goal

abbrev pub invariant-loop-session : goal.invariant-loop-session
invariant-loop-session l = FromSession (sums_of (take_paths l.taken) (take_readings l.taken)) l.session l.taken l.book l.refusals
