use Rattle.std.proofs.Common.{length}
use Rattle.istanbul_rules.proofs.painting.+paint.Given as goal

abbrev pub decreases-paint : goal.decreases-paint
decreases-paint l = length l.stretches.now
