use Rattle.std.proofs.Common.{◌≡◌}
use Rattle.std.proofs.Common.{◌++◌, drop}
use Rattle.istanbul_rules.specs.Parts.{ranges_in_order}
use Rattle.istanbul_rules.proofs.part.ranges_of.Given as goal

abbrev pub invariant-loop-function : goal.invariant-loop-function
invariant-loop-function l = l.ranges ++ ranges_in_order (drop l.function-index l.functions) ≡ ranges_in_order l.functions
