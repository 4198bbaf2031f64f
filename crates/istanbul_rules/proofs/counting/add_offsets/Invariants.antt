use Rattle.std.proofs.Common.{◌≡◌, ◌++◌, drop}
use Rattle.std.specs.Prelude.{map}
use Rattle.source_remap.specs.declared.lines.Landing.{Landing}
use Rattle.istanbul_rules.proofs.counting.add_offsets.Given as goal

abbrev pub invariant-loop-landing : goal.invariant-loop-landing
invariant-loop-landing l =
    l.offsets.items ++ map (λ (x : Landing). x.offset) (drop l.landing-index l.landings) ≡ l.fn.offsets.items ++ map (λ (x : Landing). x.offset) l.landings
