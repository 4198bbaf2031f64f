use Rattle.std.proofs.Common.{◌≡◌, ◌∷◌, map, take}
use Rattle.std.specs.Prelude.{flat_map, string_bytes}
use Rattle.source_remap.proofs.walk.rooted.Given as goal

-- the segments so far, each behind a slash
abbrev pub invariant-loop-segment : goal.invariant-loop-segment
invariant-loop-segment l = string_bytes l.path ≡ flat_map (λ s. 47 ∷ s) (map (λ s. s.now) (take l.segment-index l.segments))
