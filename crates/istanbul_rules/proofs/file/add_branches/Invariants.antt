use Rattle.std.proofs.Common.{◌≡◌}
use Rattle.std.proofs.Common.{◌++◌, ◌≤◌, ◌^◌, drop, length}
use Rattle.std.specs.Prelude.{filter}
use Rattle.istanbul_rules.specs.File as file
use Rattle.istanbul_rules.proofs.file.add_branches.Given as goal

abbrev pub invariant-loop-branch : goal.invariant-loop-branch
invariant-loop-branch l = record {
  value :
      l.branches ++ file.keyed file.branch (length l.branches) (filter (file.is_branch_on l.off) (drop l.branch-index l.more))
      ≡ l.fn.branches ++ file.keyed file.branch (length l.fn.branches) (filter (file.is_branch_on l.off) l.more);
  bound : length l.branches ≤ 2 ^ 64;
}
