-- How many runs an addition may look at: each report of a function at most the runs that are held of it, and those of all its
-- reports in the snapshot.
use Rattle.std.specs.Prelude.{ℕ, ◌+◌, ◌*◌, List, [], ◌∷◌, length, sum_by, if◌then◌else◌}
use Rattle.std.specs.List.{list_any}
use Rattle.cov_model.specs.declared.snapshot.Snapshot.{Snapshot}
use Rattle.cov_model.specs.declared.sums.Key.{Key}
use Rattle.cov_model.specs.Normal.{maximal_runs}
use Rattle.cov_model.specs.Sums.{total, keys_in_order, same_key}
use Rattle.cov_book.specs.Counts.{reports_in}
use Rattle.cov_book.specs.Prepared.{report_runs}

-- the runs that are held of a function: none where it has no report
abbrev pub held_runs : List Snapshot → Key → ℕ
held_runs held key = if list_any (same_key key) (keys_in_order held) then length (maximal_runs key.start key.end (total held key)) else 0

-- the runs of its reports in a snapshot
abbrev pub added_runs : Snapshot → Key → ℕ
added_runs snapshot key = sum_by report_runs (reports_in key snapshot)

abbrev pub key_cost : List Snapshot → Snapshot → Key → ℕ
key_cost held snapshot key = length (reports_in key snapshot) * (held_runs held key + added_runs snapshot key)

-- the same of all functions of the snapshot
unfoldable pub cost_of : List Snapshot → Snapshot → ℕ
cost_of held snapshot = sum_by (key_cost held snapshot) (keys_in_order (snapshot ∷ []))
