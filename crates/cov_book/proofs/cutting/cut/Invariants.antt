use Rattle.std.proofs.Common.{◌++◌, drop}
use Rattle.cov_book.specs.Weights.{entries_in, AreAlike}
use Rattle.cov_book.proofs.cutting.cut.Given as goal

-- what was cut, with what is left, is like all
abbrev pub invariant-loop-i : goal.invariant-loop-i
invariant-loop-i l = AreAlike (entries_in l.wholes) (entries_in l.parts.items ++ entries_in (drop l.i l.wholes))
