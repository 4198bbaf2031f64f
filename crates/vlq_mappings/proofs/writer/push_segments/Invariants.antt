use Rattle.std.proofs.Common.{◌≡◌, ◌++◌, drop}
use Rattle.std.specs.Prelude.{string_bytes}
use Rattle.vlq_mappings.specs.Grammar.{behind_line}
use Rattle.vlq_mappings.specs.Written.{segment_texts, preceded}
use Rattle.vlq_mappings.proofs.writer.push_segments.Given as goal

abbrev pub invariant-loop-segment : goal.invariant-loop-segment
invariant-loop-segment l = record {
  text : string_bytes l.text ++ preceded 44 (segment_texts l.last (drop l.segment-index l.segments)) ≡ string_bytes l.fn.text ++ preceded 44 (segment_texts l.fn.last l.segments);
  last : behind_line l.last (drop l.segment-index l.segments) ≡ behind_line l.fn.last l.segments;
}
