use Rattle.std.proofs.Common.{◌≡◌, drop, ◌++◌, map}
use Rattle.lcov_text.specs.Lcov.{line_line, ended_lines}
use Rattle.lcov_text.proofs.trace.put_line_lines.Given as goal

abbrev pub invariant-loop-line : goal.invariant-loop-line
invariant-loop-line l = l.text.items ++ ended_lines (map line_line (drop l.line-index l.lines)) ≡ l.initial.text.items ++ ended_lines (map line_line l.lines)
