use Rattle.std.proofs.Common.{◌≡◌, ◌++◌, map, drop}
use Rattle.cov_session.specs.View.{at_most_one}
use Rattle.cov_session.proofs.seeing.cut_ranges.Given as goal

abbrev pub invariant-loop-range : goal.invariant-loop-range
invariant-loop-range l = l.cut ++ map at_most_one (drop l.range-index l.ranges) ≡ map at_most_one l.ranges
