use Rattle.std.proofs.Common.{[], ◌∷◌, ◌++◌, drop}
use Rattle.cov_book.specs.Weights.{entries_in, entry_of, AreAlike}
use Rattle.cov_book.proofs.Weighed.{script}
use Rattle.cov_book.proofs.cutting.cut_one.Given as goal

-- what was cut, with the script of the reports that are left, is like the whole
abbrev pub invariant-loop-report : goal.invariant-loop-report
invariant-loop-report l =
    AreAlike (entries_in l.initial.parts.items ++ entry_of l.whole ∷ []) (entries_in l.parts.items ++ script l.whole.url.now (drop l.report-index l.whole.reports.now) ∷ [])
