use Rattle.std.proofs.Common.{◌≡◌, ◌++◌, drop}
use Rattle.std.specs.Prelude.{filter_map}
use Rattle.istanbul_rules.specs.Remapped.{function_in}
use Rattle.istanbul_rules.proofs.remapped.functions_in.Given as goal

abbrev pub invariant-loop-function : goal.invariant-loop-function
invariant-loop-function l =
    l.functions ++ filter_map (function_in l.table l.source) (drop l.function-index l.named) ≡ filter_map (function_in l.table l.source) l.named
