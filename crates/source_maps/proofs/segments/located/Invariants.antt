use Rattle.std.proofs.Common.{◌≡◌, ◌++◌, drop}
use Rattle.source_maps.specs.Maps.{located}
use Rattle.source_maps.proofs.segments.located.Given as goal

-- the segments so far, and those of the rest, are those of all
abbrev pub invariant-loop-line : goal.invariant-loop-line
invariant-loop-line l = l.segments ++ located l.line (drop l.line l.lines) ≡ located 0 l.lines
