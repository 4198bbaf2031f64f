-- The nested normal list of a function: as few ranges as a stack of open ranges needs.
use Rattle.std.specs.Prelude.{ℕ, zero, suc, ◌+◌, ◌-◌, ◌*◌, Bool, not, List, [], ◌∷◌, ◌++◌, ◌==◌, Option, None, Some, option_map, unwrap_or, filter, find}
use Rattle.cov_model.specs.declared.report.Range.{Range}
use Rattle.cov_text.specs.Listing.{offsets, last_of}
use Rattle.cov_model.specs.Normal.{range}

-- the least offset of start..end whose count passes the test
abbrev pub first_where : (ℕ → Bool) → ℕ → ℕ → Option ℕ
first_where test start end = find test (offsets start end)

-- one past the greatest offset of start..end whose count passes the test, or else start
abbrev pub end_where : (ℕ → Bool) → ℕ → ℕ → ℕ
end_where test start end = unwrap_or (option_map suc (last_of (filter test (offsets start end)))) start

-- the list, where there is one
abbrev pub list_if_some : {A B : Type 0} → (A → List B) → Option A → List B
list_if_some g None = []
list_if_some g (Some a) = g a

-- The ranges inside start..end, which counts c by itself: a is the first offset with another count, b the first behind
-- it with c again, or the end. From a to the last offset before b that has the count of a goes one range, with those
-- inside it; then come those behind it. The fuel only bounds how deep this goes.
unfoldable pub nest_to : ℕ → ℕ → ℕ → ℕ → (ℕ → ℕ) → List Range
nest_to zero start end c f = []
nest_to (suc fuel) start end c f =
    list_if_some
    (λ a.
    let b = unwrap_or (first_where (λ o. f o == c) a end) end in
    let q = end_where (λ o. f o == f a) a b in
    range a q (f a) ∷ (nest_to fuel a q (f a) f ++ nest_to fuel q end c f))
    (first_where (λ o. not (f o == c)) start end)

-- each level down has fewer offsets, or as many and the count of the first of them
abbrev pub nest : ℕ → ℕ → ℕ → (ℕ → ℕ) → List Range
nest start end c f = nest_to (2 * (end - start) + 1) start end c f

-- the nested normal list of a root, its count, and the counts at its offsets
unfoldable pub nested : ℕ → ℕ → ℕ → (ℕ → ℕ) → List Range
nested start end count f = range start end count ∷ nest start end count f
