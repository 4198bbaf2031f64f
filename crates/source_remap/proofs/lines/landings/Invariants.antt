use Rattle.std.proofs.Common.{◌≡◌, take}
use Rattle.source_remap.specs.Origins as origins
use Rattle.source_remap.proofs.lines.landings.Given as goal

-- where the segments so far land
abbrev pub invariant-loop-segment : goal.invariant-loop-segment
invariant-loop-segment l = l.landings.items ≡ origins.landings (take l.segment-index l.segments) l.source l.generated
