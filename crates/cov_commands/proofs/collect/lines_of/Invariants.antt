use Rattle.std.proofs.Common.{◌≡◌, ◌++◌, map}
use Rattle.std.specs.Prelude.{string_bytes}
use Rattle.std.specs.Iterator.Adapters.{zip_first, zip_second}
use Rattle.std.specs.Slice.Iter.{iter_rest}
use Rattle.cov_commands.specs.Lines.{answer_lines}
use Rattle.cov_commands.proofs.collect.lines_of.Given as goal

-- what is written, ahead of the lines that are left, is the whole
abbrev pub invariant-loop-path : goal.invariant-loop-path
invariant-loop-path l =
    l.written.items ++ answer_lines (map string_bytes (iter_rest (zip_first l.path-iterator))) (iter_rest (zip_second l.path-iterator))
    ≡ answer_lines (map string_bytes l.paths) l.answers
