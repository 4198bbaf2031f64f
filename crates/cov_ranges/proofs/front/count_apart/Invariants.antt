use Rattle.std.proofs.Common.{◌-◌}
use Rattle.cov_ranges.specs.Front.{are_apart}
use Rattle.cov_ranges.proofs.Longest.{Halves}
use Rattle.cov_ranges.proofs.front.count_apart.Given as goal

-- so many don't cross, and of so many two do
abbrev pub invariant-halves : goal.invariant-halves
invariant-halves l = Halves are_apart l.ranges l.low l.high

abbrev pub decreases-halves : goal.decreases-halves
decreases-halves l = l.high - l.low
