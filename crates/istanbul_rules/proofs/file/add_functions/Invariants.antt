use Rattle.std.proofs.Common.{◌≡◌}
use Rattle.std.proofs.Common.{◌++◌, ◌≤◌, ◌^◌, drop, length}
use Rattle.std.specs.Prelude.{filter}
use Rattle.istanbul_rules.specs.File as file
use Rattle.istanbul_rules.proofs.file.add_functions.Given as goal

abbrev pub invariant-loop-function : goal.invariant-loop-function
invariant-loop-function l = record {
  value :
      l.functions ++ file.keyed file.function (length l.functions) (filter (file.is_function_on l.off) (drop l.function-index l.more))
      ≡ l.fn.functions ++ file.keyed file.function (length l.fn.functions) (filter (file.is_function_on l.off) l.more);
  bound : length l.functions ≤ 2 ^ 64;
}
