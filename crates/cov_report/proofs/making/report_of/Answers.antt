use Rattle.std.proofs.Common.{◌≡◌, [], map, sym, ap, ◌∙◌, subst}
use Rattle.source_maps.specs.Entries.{said}
use Rattle.istanbul_json.specs.Gives.{ArePathsInOrder}
use Rattle.cov_report.proofs.Whole.{Gathers-start, report-is, paths-in-order}
use Rattle.cov_report.proofs.making.report_of.Goals as goal

pub returns-clause-report : goal.returns-clause-report
returns-clause-report g c =
    λ held stands told is.
    report-is told held c.scripts-3.result.now (map said c.args.entries.now) c.gather.new.gathered c.in_ok-files.files (c.scripts-3.ensures.value ∙ c.in_ok-scripts.ensures.value held stands)
    (c.in_ok-gather.ensures.gathers told is [] (Gathers-start told c.new-gathered.result c.new-gathered.ensures.files c.new-gathered.ensures.skips))
    c.in_ok-files.ensures.ordered c.in_ok-files.ensures.each

pub returns-clause-in_order : goal.returns-clause-in_order
returns-clause-in_order g c = subst ArePathsInOrder (sym c.in_ok-files.ensures.each) (paths-in-order c.gather.new.gathered.files c.in_ok-files.ensures.ordered)
