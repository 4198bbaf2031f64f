use Rattle.std.proofs.Common.{◌≡◌}
use Rattle.std.proofs.Common.{◌++◌, drop}
use Rattle.istanbul_rules.specs.Parts as parts
use Rattle.istanbul_rules.proofs.locating.branches_of.Given as goal

abbrev pub invariant-loop-function : goal.invariant-loop-function
invariant-loop-function l =
    l.branches ++ parts.branches_of (parts.direct_loc l.table) (drop l.function-index l.functions)
    ≡ parts.branches_of (parts.direct_loc l.table) l.functions
