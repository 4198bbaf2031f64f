-- How many runs additions look at, on an example.
use Rattle.std.specs.Prelude.{◌≡◌, ℕ, List, [], ◌∷◌, true}
use Rattle.cov_model.specs.declared.report.Range.{Range}
use Rattle.cov_model.specs.declared.snapshot.Snapshot.{Snapshot}
use Rattle.cov_model.specs.Normal.{range}
use Rattle.cov_book.specs.Cost.{cost_of}

-- a script with one function
abbrev pub just : List ℕ → List Range → Snapshot
just url ranges = record { url = url; functions = record { name = []; block = true; ranges = ranges } ∷ [] } ∷ []

-- five runs, three runs of the same function, and one run of another script's
abbrev pub five : Snapshot
five = just (97 ∷ []) (range 0 100 1 ∷ range 10 50 5 ∷ range 20 30 3 ∷ [])

abbrev pub three : Snapshot
three = just (97 ∷ []) (range 0 100 2 ∷ range 20 60 0 ∷ [])

abbrev pub another : Snapshot
another = just (98 ∷ []) (range 0 10 1 ∷ [])

-- Five runs are looked at over nothing, then eight for five that are held and three more, and one of a function that isn't held.
abbrev pub RunsLookedAt : Type 0
RunsLookedAt = (cost_of [] five ≡ 5) × (cost_of (five ∷ []) three ≡ 8) × (cost_of (five ∷ three ∷ []) another ≡ 1)
