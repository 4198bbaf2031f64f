use Rattle.std.proofs.Common.{drop}
use Rattle.cov_ranges.proofs.Stack.{Walked}
use Rattle.cov_ranges.proofs.walk.nest_in_order.Given as goal

abbrev pub invariant-loop-r : goal.invariant-loop-r
invariant-loop-r l = Walked l.ranges l.stack.items (drop l.r-index l.ranges)
