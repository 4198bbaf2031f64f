use Rattle.std.specs.Prelude.{vec_len}
use Rattle.cov_ranges.proofs.Stack.{Popped}
use Rattle.cov_ranges.proofs.walk.close.Given as goal

-- what was taken away ended
abbrev pub invariant-ended : goal.invariant-ended
invariant-ended l = Popped l.start l.fn.stack.items l.stack.items

abbrev pub decreases-ended : goal.decreases-ended
decreases-ended l = vec_len l.stack
