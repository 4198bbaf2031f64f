use Rattle.std.proofs.Common.{◌≤◌, map, take}
use Rattle.std.specs.Prelude.{sum_by}
use Rattle.cov_model.specs.declared.sums.At.TheVariants.{Offset}
use Rattle.cov_book.specs.Counts.{weight}
use Rattle.cov_book.specs.Stretching.{TellsSums}
use Rattle.cov_book.proofs.stretches.sums_of_reports.Given as goal

abbrev pub invariant-loop-report : goal.invariant-loop-report
invariant-loop-report g l = record {
  told : TellsSums l.start l.end (λ o. sum_by (weight (Offset o)) (map (λ r. r.now) (take l.report-index l.reports))) l.sums.items;
  later : l.initial.steps ≤ l.steps;
}
