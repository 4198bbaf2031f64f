use Rattle.std.proofs.Common.{◌≡◌, drop}
use Rattle.std.specs.Prelude.{map}
use Rattle.source_maps.specs.Maps.{all_near, moved}
use Rattle.source_maps.specs.Answers.{behind_near}
use Rattle.source_maps.proofs.moving.all_near.Given as goal

-- the segments so far, and those of the rest, are those of all
abbrev pub invariant-loop-segment : goal.invariant-loop-segment
invariant-loop-segment l =
    behind_near l.all (all_near l.k (map (moved l.start l.sources l.names) (drop l.segment-index l.segments)))
    ≡ all_near l.k (map (moved l.start l.sources l.names) l.segments)
