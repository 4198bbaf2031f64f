use Rattle.std.proofs.Common.{◌≡◌}
use Rattle.std.proofs.Common.{◌++◌, drop}
use Rattle.std.specs.Prelude.{map}
use Rattle.istanbul_rules.specs.Painting.{stretch_of_line}
use Rattle.istanbul_rules.proofs.counting.line_stretches.Given as goal

abbrev pub invariant-loop-i : goal.invariant-loop-i
invariant-loop-i l = l.stretches.items ++ map stretch_of_line (drop l.i l.table.spans) ≡ map stretch_of_line l.table.spans
