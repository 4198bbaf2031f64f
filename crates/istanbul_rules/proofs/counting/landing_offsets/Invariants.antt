use Rattle.std.proofs.Common.{◌≡◌, ◌++◌, drop}
use Rattle.istanbul_rules.proofs.Offsets.{all_offsets}
use Rattle.istanbul_rules.proofs.counting.landing_offsets.Given as goal

abbrev pub invariant-loop-list : goal.invariant-loop-list
invariant-loop-list l = l.offsets.items ++ all_offsets (drop l.list-index l.landings) ≡ all_offsets l.landings
