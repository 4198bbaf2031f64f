use Rattle.std.proofs.Common.{◌≡◌, ◌≤◌, drop}
use Rattle.cov_steps.specs.Runs.{count_in}
use Rattle.cov_book.proofs.faults.count_of.Given as goal

abbrev pub invariant-loop-i : goal.invariant-loop-i
invariant-loop-i g l = record {
  count : count_in (drop l.i l.runs.runs) l.offset ≡ count_in l.runs.runs l.offset;
  later : l.initial.steps ≤ l.steps;
}
