use Rattle.std.proofs.Common.{◌≡◌, drop, ◌++◌, ◌∷◌}
use Rattle.std.specs.List.{flat_map}
use Rattle.cov_table.specs.Table.{run_text}
use Rattle.cov_table.proofs.runs.put_more_runs.Given as goal

abbrev pub invariant-loop-run : goal.invariant-loop-run
invariant-loop-run l = l.text.items ++ flat_map (λ r. 44 ∷ run_text r) (drop l.run-index l.runs) ≡ l.initial.text.items ++ flat_map (λ r. 44 ∷ run_text r) l.runs
