use Rattle.std.proofs.Common.{◌≡◌, ◌++◌, drop, map}
use Rattle.std.specs.Prelude.{filter}
use Rattle.cov_model.specs.Sums.{is_of}
use Rattle.cov_book.proofs.found.add_script_reports.Given as goal

abbrev pub invariant-loop-report : goal.invariant-loop-report
invariant-loop-report l = map (λ r. r.now) l.found.items ++ filter (is_of l.key l.entry.url) (drop l.report-index l.report-items) ≡ map (λ r. r.now) l.initial.found.items ++ filter (is_of l.key l.entry.url) l.report-items
