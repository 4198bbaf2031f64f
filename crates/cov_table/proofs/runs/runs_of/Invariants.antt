use Rattle.std.proofs.Common.{◌≡◌, drop, ◌++◌}
use Rattle.cov_table.specs.Table.{runs, uncovered}
use Rattle.cov_table.specs.Adding.{runs_from}
use Rattle.cov_table.proofs.runs.runs_of.Given as goal

abbrev pub invariant-loop-line : goal.invariant-loop-line
invariant-loop-line l = l.done.items ++ runs_from l.pending (uncovered (drop l.line-index l.lines)) ≡ runs (uncovered l.lines)
