use Rattle.std.proofs.Common.{◌≡◌}
use Rattle.std.proofs.Common.{◌++◌, drop}
use Rattle.istanbul_rules.specs.Parts as parts
use Rattle.istanbul_rules.proofs.locating.functions_of.Given as goal

abbrev pub invariant-loop-function : goal.invariant-loop-function
invariant-loop-function l =
    l.found ++ parts.functions_of (parts.direct_loc l.table) (drop l.function-index l.functions)
    ≡ parts.functions_of (parts.direct_loc l.table) l.functions
