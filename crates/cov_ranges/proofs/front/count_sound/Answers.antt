use Rattle.cov_ranges.proofs.Longest.{sound-stops}
use Rattle.cov_ranges.proofs.front.count_sound.Goals as goal

pub returns-then-not-is_sound : goal.returns-then-not-is_sound
returns-then-not-is_sound c = sound-stops c.args.root c.args.ranges.now c.loop-k.k (record { start = 0; end = 0; count = 0 }) c.loop-k-test.true c.loop-k.invariant c.if-not-is_sound.ensures
