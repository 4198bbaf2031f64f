use Rattle.cov_ranges.specs.Front.{are_apart}
use Rattle.cov_ranges.proofs.Longest.{halves-meet}
use Rattle.cov_ranges.proofs.front.count_apart.Goals as goal

pub returns : goal.returns
returns c = halves-meet are_apart c.args.ranges.now c.halves.low c.halves.high c.halves.invariant c.halves-test.false
