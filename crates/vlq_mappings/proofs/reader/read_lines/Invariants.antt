use Rattle.std.proofs.Common.{◌≡◌, ◌-◌, ◌<◌, length, drop}
use Rattle.vlq_mappings.specs.Faults.{goes_on}
use Rattle.vlq_mappings.specs.Mappings.{mappings}
use Rattle.vlq_mappings.specs.Pieces.{lines_behind, with_lines}
use Rattle.vlq_mappings.proofs.reader.read_lines.Given as goal

abbrev pub invariant-lines : goal.invariant-lines
invariant-lines l = record {
  same : goes_on (lines_behind l.at l.last (drop l.at l.bytes)) (with_lines l.lines) ≡ mappings l.fn.text;
  some : 0 < length l.lines;
}

abbrev pub decreases-lines : goal.decreases-lines
decreases-lines l = length l.bytes - l.at
