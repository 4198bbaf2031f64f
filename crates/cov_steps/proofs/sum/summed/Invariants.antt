use Rattle.std.proofs.Common.{◌≡◌, ℕ, ◌+◌, ◌-◌, ◌<◌, ◌≤◌, ◌⊎◌, length}
use Rattle.cov_model.specs.Normal.{maximal_runs}
use Rattle.cov_text.specs.Listing.{limit}
use Rattle.cov_steps.specs.Runs.{sum_at}
use Rattle.cov_steps.specs.Walking.{Walked}
use Rattle.cov_steps.proofs.sum.summed.Given as goal

-- both lists are walked up to this offset, the sum has the runs up to it, and one of the lists has a run that ends there
abbrev pub invariant-loop-at : goal.invariant-loop-at
invariant-loop-at g l = record {
  from : l.held.start ≤ l.at;
  to : l.at ≤ l.held.end;
  left : Walked l.held.runs l.held.end l.left.next l.at l.left.run;
  right : Walked l.added.runs l.added.end l.right.next l.at l.right.run;
  ended : (l.left.run.end ≡ l.at) ⊎ (l.right.run.end ≡ l.at);
  sum : l.sum.items ≡ maximal_runs l.held.start l.at (sum_at l.held l.added);
  fits : (o : ℕ) → l.held.start ≤ o → o < l.at → sum_at l.held l.added o ≤ limit;
  cost : l.steps ≡ l.initial.steps + (l.left.next + l.right.next);
  size : length l.sum.items ≤ l.left.next + l.right.next;
}

abbrev pub decreases-loop-at : goal.decreases-loop-at
decreases-loop-at g l = l.held.end - l.at
