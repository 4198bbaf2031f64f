use Rattle.std.proofs.Common.{◌≡◌, [], replicate}
use Rattle.source_remap.proofs.lines.no_offsets.Given as goal

abbrev pub invariant-loop-line : goal.invariant-loop-line
invariant-loop-line l = l.found.items ≡ replicate l._line []
