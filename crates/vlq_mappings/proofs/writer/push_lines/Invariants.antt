use Rattle.std.proofs.Common.{◌≡◌, ◌++◌, drop}
use Rattle.std.specs.Prelude.{string_bytes}
use Rattle.vlq_mappings.specs.Mappings.{next_line}
use Rattle.vlq_mappings.specs.Written.{line_texts, preceded}
use Rattle.vlq_mappings.proofs.writer.push_lines.Given as goal

abbrev pub invariant-loop-line : goal.invariant-loop-line
invariant-loop-line l =
    string_bytes l.text ++ preceded 59 (line_texts (next_line l.last) (drop l.line-index l.lines))
    ≡ string_bytes l.fn.text ++ preceded 59 (line_texts (next_line l.fn.last) l.lines)
