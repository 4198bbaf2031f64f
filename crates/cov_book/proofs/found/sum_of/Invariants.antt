use Rattle.std.proofs.Common.{◌≡◌, take, map}
use Rattle.std.specs.Prelude.{sum_by}
use Rattle.cov_book.specs.Counts.{capped, weight}
use Rattle.cov_book.proofs.found.sum_of.Given as goal

abbrev pub invariant-loop-report : goal.invariant-loop-report
invariant-loop-report l = l.sum ≡ capped (sum_by (weight l.at) (map (λ r. r.now) (take l.report-index l.found)))
