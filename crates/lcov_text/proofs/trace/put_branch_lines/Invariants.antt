use Rattle.std.proofs.Common.{◌≡◌, drop, ◌++◌}
use Rattle.std.specs.List.{flat_map, enumerate_from}
use Rattle.lcov_text.specs.Lcov.{location_lines, ended_lines}
use Rattle.lcov_text.proofs.trace.put_branch_lines.Given as goal

abbrev pub invariant-loop-place : goal.invariant-loop-place
invariant-loop-place l = l.text.items ++ ended_lines (flat_map location_lines (enumerate_from l.place (drop l.place l.branches))) ≡ l.initial.text.items ++ ended_lines (flat_map location_lines (enumerate_from 0 l.branches))
