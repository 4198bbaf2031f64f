use Rattle.std.proofs.Common.{◌≡◌, ◌+◌, length}
use Rattle.vlq_mappings.specs.Faults.{goes_on}
use Rattle.vlq_mappings.specs.Pieces.{line_at, line_segments, with_front}
use Rattle.vlq_mappings.proofs.reader.read_line.Given as goal

abbrev pub invariant-pieces : goal.invariant-pieces
invariant-pieces l = record {
  same : goes_on (line_segments l.bytes l.at l.last) (with_front l.segments) ≡ line_segments l.bytes l.fn.from l.fn.last;
  end : l.at + length (line_at l.bytes l.at) ≡ l.fn.from + length (line_at l.bytes l.fn.from);
}

abbrev pub decreases-pieces : goal.decreases-pieces
decreases-pieces l = length (line_at l.bytes l.at)
