use Rattle.std.proofs.Common.{◌≡◌, ◌++◌, drop}
use Rattle.std.specs.Prelude.{map}
use Rattle.source_maps.specs.Maps.{on_line}
use Rattle.source_maps.proofs.segments.push_line.Given as goal

-- the segments so far, and those of the rest, are those of all
abbrev pub invariant-loop-segment : goal.invariant-loop-segment
invariant-loop-segment l = l.segments ++ map (on_line l.line) (drop l.segment-index l.found) ≡ l.initial.segments ++ map (on_line l.line) l.found
