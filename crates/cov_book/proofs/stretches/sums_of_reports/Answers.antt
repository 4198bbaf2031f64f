use Rattle.std.proofs.Common.{◌≡◌, ◌+◌, ◌∷◌, ◌++◌, [], map, take, sym, ap, ◌∙◌, subst, arith, Bor}
use Rattle.std.specs.Prelude.{None, sum_by}
use Rattle.std.proofs.lemmas.List.{map_push, take_more}
use Rattle.cov_model.specs.declared.report.FunctionReport.{FunctionReport}
use Rattle.cov_model.specs.declared.sums.At.TheVariants.{Offset}
use Rattle.cov_model.specs.Nesting.{range_fault}
use Rattle.cov_steps.specs.Runs.{RunList, counted}
use Rattle.cov_book.specs.Counts.{weight}
use Rattle.cov_book.specs.Stretching.{IsCover, TellsSums}
use Rattle.cov_book.proofs.Nested.{All-at}
use Rattle.cov_book.proofs.Stretched.{tells-more}
use Rattle.cov_book.proofs.stretches.sums_of_reports.Goals as goal

abbrev now : Bor FunctionReport → FunctionReport
now r = r.now

pub of-requires : goal.of-requires
of-requires g c =
    All-at (λ (f : FunctionReport). range_fault f.ranges ≡ None) now c.args.reports.now c.loop-report.report-index c.report-item.result c.requires.nested c.loop-report-test.true c.report-item.is

pub with_runs-requires : goal.with_runs-requires
with_runs-requires g c =
    let runs = c.in_ok-runs.runs in
    let root =
    All-at (λ (f : FunctionReport). ((counted f.ranges).start ≡ c.args.start) × ((counted f.ranges).end ≡ c.args.end)) now
    c.args.reports.now c.loop-report.report-index c.report-item.result c.requires.rooted c.loop-report-test.true c.report-item.is in
    let starts : runs.start ≡ c.args.start = ap (λ (r : RunList). r.start) c.in_ok-runs.ensures ∙ root.0 in
    let ends : runs.end ≡ c.args.end = ap (λ (r : RunList). r.end) c.in_ok-runs.ensures ∙ root.1 in
    subst (IsCover runs.start runs.end) (sym c.as_slice.ensures.value)
    (subst (λ n. IsCover n runs.end c.loop-report.sums.items) (sym starts) (subst (λ n. IsCover c.args.start n c.loop-report.sums.items) (sym ends) c.loop-report.invariant.told.covers))

pub loop-report-preserved : goal.loop-report-preserved
loop-report-preserved g c =
    let reports = c.args.reports.now in
    let k = c.loop-report.report-index in
    let f = c.report-item.result in
    let root =
    All-at (λ (f : FunctionReport). ((counted f.ranges).start ≡ c.args.start) × ((counted f.ranges).end ≡ c.args.end)) now reports k f c.requires.rooted c.loop-report-test.true c.report-item.is in
    let more = ap (map now) (take_more reports k f c.loop-report-test.true ∙ ap (λ r. take k reports ++ r ∷ []) (sym c.report-item.is)) ∙ map_push now (take k reports) f in
    let told =
    subst (TellsSums c.args.start c.args.end (λ o. sum_by (weight (Offset o)) (map now (take k reports)))) (sym c.as_slice.ensures.value) c.loop-report.invariant.told in
    record {
      told =
          tells-more c.args.start c.args.end (map now (take k reports)) f.now (map now (take (k + 1) reports)) c.in_ok-runs.runs c.as_slice.result.now c.in_ok-sums-2.sums.items
          more c.in_ok-runs.ensures root told c.in_ok-sums-2.ensures.covers c.in_ok-sums-2.ensures.sums;
      later = omega (arith, c.loop-report.invariant.later, c.with_runs.ensures.later);
    }
