use Rattle.std.proofs.Common.{◌≡◌, drop}
use Rattle.std.specs.Prelude.{not}
use Rattle.std.specs.List.{position_from}
use Rattle.source_maps.specs.Kept.{is_below}
use Rattle.source_maps.proofs.segments.first_past.Given as goal

-- the first that is past its list is among the rest, if there is one
abbrev pub invariant-loop-k : goal.invariant-loop-k
invariant-loop-k l =
    position_from (λ s. not (is_below l.sources l.names s)) l.k (drop l.k l.segments) ≡ position_from (λ s. not (is_below l.sources l.names s)) 0 l.segments
