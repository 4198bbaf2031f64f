use Rattle.std.proofs.Common.{◌≡◌, true, take}
use Rattle.cov_ranges.specs.Front.{are_sound}
use Rattle.cov_ranges.proofs.front.count_sound.Given as goal

-- those gone by are sound
abbrev pub invariant-loop-k : goal.invariant-loop-k
invariant-loop-k l = are_sound l.root (take l.k l.ranges) ≡ true
