use Rattle.std.proofs.Common.{◌≡◌, ℕ, ◌++◌, drop}
use Rattle.std.specs.Prelude.{map}
use Rattle.istanbul_rules.specs.Parts.{greatest}
use Rattle.istanbul_rules.proofs.counting.mapped_lines.Given as goal

abbrev pub invariant-loop-places : goal.invariant-loop-places
invariant-loop-places l =
    (count_of : ℕ → ℕ) → l.counts ≡ map count_of l.offsets
    → l.lines ++ map (λ places. greatest (map count_of places)) (drop l.places-index l.anchors) ≡ map (λ places. greatest (map count_of places)) l.anchors
