use Rattle.std.proofs.Common.{◌≡◌}
use Rattle.std.proofs.Common.{◌++◌, ◌≤◌, ◌^◌, drop, length}
use Rattle.std.specs.Prelude.{filter, flat_map}
use Rattle.istanbul_rules.specs.File as file
use Rattle.istanbul_rules.proofs.file.branches_in.Given as goal

abbrev pub invariant-loop-part : goal.invariant-loop-part
invariant-loop-part l = record {
  value :
      l.branches ++ file.keyed file.branch (length l.branches) (filter (file.is_branch_on l.off) (flat_map (λ part. part.branches) (drop l.part-index l.parts)))
      ≡ file.branches_in l.off l.parts;
  bound : length l.branches ≤ 2 ^ 64;
}
