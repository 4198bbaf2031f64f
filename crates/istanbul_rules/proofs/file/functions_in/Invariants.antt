use Rattle.std.proofs.Common.{◌≡◌}
use Rattle.std.proofs.Common.{◌++◌, ◌≤◌, ◌^◌, drop, length}
use Rattle.std.specs.Prelude.{filter, flat_map}
use Rattle.istanbul_rules.specs.File as file
use Rattle.istanbul_rules.proofs.file.functions_in.Given as goal

abbrev pub invariant-loop-part : goal.invariant-loop-part
invariant-loop-part l = record {
  value :
      l.functions ++ file.keyed file.function (length l.functions) (filter (file.is_function_on l.off) (flat_map (λ part. part.functions) (drop l.part-index l.parts)))
      ≡ file.functions_in l.off l.parts;
  bound : length l.functions ≤ 2 ^ 64;
}
