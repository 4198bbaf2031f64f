use Rattle.std.proofs.Common.{◌≤◌, take}
use Rattle.std.specs.List.{AllByRecursion}
use Rattle.cov_model.specs.declared.report.Range.{Range}
use Rattle.cov_text.specs.Listing.{limit}
use Rattle.cov_book.proofs.sums.counts_fit.Given as goal

abbrev pub invariant-loop-r : goal.invariant-loop-r
invariant-loop-r l = AllByRecursion (λ (r : Range). r.count ≤ limit) (take l.r-index l.ranges)
