use Rattle.std.proofs.Common.{arith}
use Rattle.istanbul_rules.specs.Painting.{stretch_at}
use Rattle.istanbul_rules.proofs.Lists.{walked_all}
use Rattle.istanbul_rules.proofs.Lines.{unit_starts, unit_ends}
use Rattle.istanbul_rules.proofs.counting.unit_stretches.Goals as goal

pub returns-clause-starts : goal.returns-clause-starts
returns-clause-starts c =
    unit_starts c.args.offsets.now c.loop-offset.stretches.items c.requires
    (walked_all stretch_at c.args.offsets.now c.loop-offset.offset-index c.loop-offset.stretches.items _ (omega arith) c.loop-offset.invariant)

pub returns-clause-ends : goal.returns-clause-ends
returns-clause-ends c =
    unit_ends c.args.offsets.now c.loop-offset.stretches.items c.requires
    (walked_all stretch_at c.args.offsets.now c.loop-offset.offset-index c.loop-offset.stretches.items _ (omega arith) c.loop-offset.invariant)
