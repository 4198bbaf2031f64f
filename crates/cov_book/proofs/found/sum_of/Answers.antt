use Rattle.std.proofs.Common.{◌≡◌, Bor}
use Rattle.std.specs.Prelude.{None}
use Rattle.cov_model.specs.declared.report.FunctionReport.{FunctionReport}
use Rattle.cov_model.specs.Nesting.{range_fault}
use Rattle.cov_book.proofs.Nested.{All-at}
use Rattle.cov_book.proofs.found.sum_of.Goals as goal

pub count_at_point-requires : goal.count_at_point-requires
count_at_point-requires c =
    All-at (λ (f : FunctionReport). range_fault f.ranges ≡ None) (λ (r : Bor FunctionReport). r.now) c.args.found.now c.loop-report.report-index c.report-item.result c.requires c.loop-report-test.true c.report-item.is
