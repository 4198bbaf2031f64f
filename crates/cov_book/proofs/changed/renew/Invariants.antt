use Rattle.std.proofs.Common.{◌≡◌, length}
use Rattle.cov_book.specs.Renewed.{renewed}
use Rattle.cov_book.proofs.changed.renew.Given as goal

-- what is left makes of the functions what all make of those at first
abbrev pub invariant-left : goal.invariant-left
invariant-left l = renewed l.functions.items l.left.items ≡ renewed l.initial.functions.items l.fn.again.items

abbrev pub decreases-left : goal.decreases-left
decreases-left l = length l.left.items
