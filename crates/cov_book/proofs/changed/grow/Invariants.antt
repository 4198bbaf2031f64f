use Rattle.std.proofs.Common.{◌≡◌, suc, ◌-◌, List}
use Rattle.std.specs.Vec.{vec_len}
use Rattle.cov_book.specs.declared.scripts.Function.{Function}
use Rattle.cov_book.specs.Renewed.{renewed}
use Rattle.cov_book.proofs.changed.grow.Given as goal

-- what was put in changes nothing
abbrev pub invariant-fill : goal.invariant-fill
invariant-fill l = (fs : List Function) → renewed fs l.again.items ≡ renewed fs l.initial.again.items

abbrev pub decreases-fill : goal.decreases-fill
decreases-fill l = suc l.at - vec_len l.again
