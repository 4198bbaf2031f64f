use Rattle.std.proofs.Common.{◌≤◌, ◌-◌}
use Rattle.cov_book.proofs.Stretched.{AreWalked}
use Rattle.cov_book.proofs.stretches.with_runs.Given as goal

abbrev pub invariant-both : goal.invariant-both
invariant-both g l = record {
  walked : AreWalked l.sums l.runs l.made.items l.from l.i l.j;
  later : l.initial.steps ≤ l.steps;
}

abbrev pub decreases-both : goal.decreases-both
decreases-both g l = l.end - l.from
