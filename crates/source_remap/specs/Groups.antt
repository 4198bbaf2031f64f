-- Lists of items, one for each source from 0 on.
use Rattle.std.specs.Prelude.{◌≡◌, ℕ, List, [], Option, filter_map, slice_index_or}

-- the items of a source, which has none where there is no list for it
abbrev pub of_source : {A : Type 0} → List (List A) → ℕ → List A
of_source lists source = slice_index_or lists source []

-- each source has what is given for it by these, in their order
abbrev pub AreBySource : {X A : Type 0} → (ℕ → X → Option A) → List X → List (List A) → Type 0
AreBySource given xs lists = (source : ℕ) → of_source lists source ≡ filter_map (given source) xs
