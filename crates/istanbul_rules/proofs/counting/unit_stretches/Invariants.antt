use Rattle.std.proofs.Common.{◌≡◌}
use Rattle.std.proofs.Common.{◌++◌, drop}
use Rattle.std.specs.Prelude.{map}
use Rattle.istanbul_rules.specs.Painting.{stretch_at}
use Rattle.istanbul_rules.proofs.counting.unit_stretches.Given as goal

abbrev pub invariant-loop-offset : goal.invariant-loop-offset
invariant-loop-offset l = l.stretches.items ++ map stretch_at (drop l.offset-index l.offsets) ≡ map stretch_at l.offsets
