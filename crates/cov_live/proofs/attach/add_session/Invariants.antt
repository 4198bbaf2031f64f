use Rattle.std.proofs.Common.{ℕ, List, ◌++◌, map}
use Rattle.std.specs.Prelude.{Ok}
use Rattle.cov_model.specs.Outcome.{Reading}
use Rattle.cov_live.specs.Adding.{Sums, LeftOf}
use Rattle.cov_live.specs.Attaching.{session_paths}
use Rattle.cov_live.proofs.Summed.{FromTake}
use Rattle.cov_live.proofs.attach.add_session.Given as goal

abbrev pub invariant-loop-number : goal.invariant-loop-number
invariant-loop-number l =
    (all : Sums) (paths : List (List ℕ)) (readings : List Reading)
    → LeftOf all (session_paths (l.session, l.snapshots) ++ paths) (map Ok l.snapshots ++ readings) l.initial.book l.initial.refusals
    → FromTake all l.session l.number l.snapshots paths readings l.book l.refusals
