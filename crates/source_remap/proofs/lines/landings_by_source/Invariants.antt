use Rattle.std.proofs.Common.{take}
use Rattle.source_remap.specs.Origins.{landing_of}
use Rattle.source_remap.specs.Groups.{AreBySource}
use Rattle.source_remap.proofs.lines.landings_by_source.Given as goal

-- where the segments so far land
abbrev pub invariant-loop-segment : goal.invariant-loop-segment
invariant-loop-segment l = AreBySource (landing_of l.generated) (take l.segment-index l.segments) l.found
