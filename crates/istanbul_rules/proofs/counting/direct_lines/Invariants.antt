use Rattle.std.proofs.Common.{◌≡◌}
use Rattle.std.proofs.Common.{◌++◌, drop}
use Rattle.std.specs.Prelude.{map, Some}
use Rattle.istanbul_rules.proofs.counting.direct_lines.Given as goal

abbrev pub invariant-loop-count : goal.invariant-loop-count
invariant-loop-count l = l.lines ++ map Some (drop l.count-index l.count-items) ≡ map Some l.count-items
