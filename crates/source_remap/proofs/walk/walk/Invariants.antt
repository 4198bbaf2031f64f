use Rattle.std.proofs.Common.{◌≡◌, map, drop}
use Rattle.source_remap.specs.Paths as paths
use Rattle.source_remap.proofs.walk.walk.Given as goal

-- what is kept, walked on by the segments left
abbrev pub invariant-loop-segment : goal.invariant-loop-segment
invariant-loop-segment l =
    paths.walked (map (λ s. s.now) l.kept.items) (map (λ s. s.now) (drop l.segment-index l.segments))
    ≡ paths.walked (map (λ s. s.now) l.initial.kept.items) (map (λ s. s.now) l.segments)
