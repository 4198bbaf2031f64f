use Rattle.std.proofs.Common.{◌≡◌, drop, ◌++◌, map}
use Rattle.lcov_text.specs.Lcov.{function_line, ended_lines}
use Rattle.lcov_text.proofs.trace.put_function_lines.Given as goal

abbrev pub invariant-loop-function : goal.invariant-loop-function
invariant-loop-function l = l.text.items ++ ended_lines (map function_line (drop l.function-index l.functions)) ≡ l.initial.text.items ++ ended_lines (map function_line l.functions)
