use Rattle.std.proofs.Common.{◌≡◌, ◌++◌, drop, map}
use Rattle.cov_book.specs.Counts.{reports_in}
use Rattle.cov_book.proofs.found.add_reports.Given as goal

abbrev pub invariant-loop-entry : goal.invariant-loop-entry
invariant-loop-entry l = map (λ r. r.now) l.found.items ++ reports_in l.key (drop l.entry-index l.entry-items) ≡ map (λ r. r.now) l.initial.found.items ++ reports_in l.key l.entry-items
