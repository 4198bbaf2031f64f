use Rattle.std.proofs.Common.{◌≡◌, ℕ, ◌≤◌, true, take, drop}
use Rattle.std.specs.Prelude.{unwrap_or}
use Rattle.cov_model.specs.Normal.{maximal_runs}
use Rattle.cov_steps.specs.Walking.{last_at, open_count, starts_from}
use Rattle.cov_steps.proofs.counted.runs_in_order.Given as goal

-- the runs go up to where the rest begins, and from there on the open ranges tell what those so far count
abbrev pub invariant-loop-r : goal.invariant-loop-r
invariant-loop-r l = record {
  from : l.root.start ≤ l.at;
  to : l.at ≤ l.root.end;
  rest : starts_from l.at (drop l.r-index l.ranges) ≡ true;
  runs : l.runs.items ≡ maximal_runs l.root.start l.at (λ o. unwrap_or (last_at l.ranges o) 0);
  counts : (o : ℕ) → l.at ≤ o → open_count l.opened.items o ≡ last_at (take l.r-index l.ranges) o;
}
