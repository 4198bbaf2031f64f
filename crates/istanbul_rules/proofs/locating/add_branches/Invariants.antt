use Rattle.std.proofs.Common.{◌≡◌}
use Rattle.std.proofs.Common.{◌++◌, drop}
use Rattle.std.specs.Prelude.{filter_map}
use Rattle.istanbul_rules.specs.Parts.{direct_loc, branch_of}
use Rattle.istanbul_rules.proofs.locating.add_branches.Given as goal

abbrev pub invariant-loop-range : goal.invariant-loop-range
invariant-loop-range l =
    l.branches ++ filter_map (branch_of (direct_loc l.table)) (drop l.range-index l.ranges)
    ≡ l.fn.branches ++ filter_map (branch_of (direct_loc l.table)) l.ranges
