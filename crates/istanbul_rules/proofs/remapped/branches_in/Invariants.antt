use Rattle.std.proofs.Common.{◌≡◌, ◌++◌, drop}
use Rattle.std.specs.Prelude.{filter_map}
use Rattle.istanbul_rules.specs.Remapped.{branch_in}
use Rattle.istanbul_rules.proofs.remapped.branches_in.Given as goal

abbrev pub invariant-loop-counted : goal.invariant-loop-counted
invariant-loop-counted l = l.branches ++ filter_map (branch_in l.table l.source) (drop l.counted-index l.spans) ≡ filter_map (branch_in l.table l.source) l.spans
