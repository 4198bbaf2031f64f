use Rattle.std.proofs.Common.{◌≡◌, ℕ, ◌≤◌, length}
use Rattle.cov_steps.specs.Walking.{open_count, Painted}
use Rattle.cov_steps.proofs.counted.reach.Given as goal

abbrev pub invariant-loop-top : goal.invariant-loop-top
invariant-loop-top l = record {
  within : l.at ≤ l.to;
  painted : (start : ℕ) (f : ℕ → ℕ) → Painted f start l.from l.to l.initial.opened.items l.initial.runs.items → Painted f start l.at l.to l.opened.items l.runs.items;
  rest : (o : ℕ) → l.to ≤ o → open_count l.opened.items o ≡ open_count l.initial.opened.items o;
}

abbrev pub decreases-loop-top : goal.decreases-loop-top
decreases-loop-top l = length l.opened.items
