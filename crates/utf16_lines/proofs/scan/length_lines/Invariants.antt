use Rattle.std.proofs.Common.{◌≡◌, ◌+◌, ◌≤◌, ◌++◌, length, drop}
use Rattle.std.specs.Prelude.{sum}
use Rattle.utf16_lines.specs.Lines.{lines_of_lengths}
use Rattle.utf16_lines.proofs.scan.length_lines.Given as goal

-- the lines found, and those of the rest, are those of all lengths
abbrev pub invariant-loop-length : goal.invariant-loop-length
invariant-loop-length l = record {
  lines : l.spans.items ++ lines_of_lengths l.start (drop l.length-index l.lengths) ≡ lines_of_lengths 0 l.lengths;
  units : l.start + (sum (drop l.length-index l.lengths) + length (drop l.length-index l.lengths)) ≡ sum l.lengths + length l.lengths;
  small : l.start ≤ 4294967295;
  none : l.length-index ≤ l.start;
}
