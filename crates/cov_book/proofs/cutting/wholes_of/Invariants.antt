use Rattle.std.proofs.Common.{◌≡◌, ◌++◌, drop}
use Rattle.cov_book.specs.Weights.{entries_in}
use Rattle.cov_book.proofs.cutting.wholes_of.Given as goal

abbrev pub invariant-loop-entry : goal.invariant-loop-entry
invariant-loop-entry l = entries_in l.parts.items ++ drop l.entry-index l.entry-items ≡ l.entry-items
