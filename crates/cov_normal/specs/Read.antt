-- What a `Nesting` has read of the runs of a function, and what its parts do.
use Rattle.std.specs.Prelude.{◌≡◌, ℕ, List, [], ◌∷◌, ◌++◌, Option, Some, length, slice_get, slice_set}
use Rattle.std.specs.Ordering.{nat_cmp}
use Rattle.std.specs.BTreeMap.{get}
use Rattle.cov_model.specs.declared.report.Range.{Range}
use Rattle.cov_model.specs.Normal.{range}
use Rattle.cov_normal.specs.declared.nesting.Nesting.{Nesting}
use Rattle.cov_normal.specs.Stack.{IsNesting, Shows, height_in}

-- where on the stack a range with the count was put last
abbrev pub height_told : Nesting → ℕ → Option ℕ
height_told nesting count = get nat_cmp nesting.heights count

-- It has read the runs with these counts from the start up to `at`.
abbrev pub HasRead : (ℕ → ℕ) → ℕ → ℕ → ℕ → Nesting → Type 0
HasRead f start count at nesting = IsNesting f start count at nesting.ranges.items nesting.stack.items (height_told nesting)

-- It reads one run more.
abbrev pub Reads : Range → Nesting → Nesting → Type 0
Reads run old new = (f : ℕ → ℕ) (start count : ℕ) → HasRead f start count run.start old → Shows f run → HasRead f start count run.end new

-- how high on the stack the range with the count is
abbrev pub height_at : Nesting → ℕ → Option ℕ
height_at nesting count = height_in nesting.ranges.items nesting.stack.items count (height_told nesting count)

-- The range at this height ends here, and all else stays.
abbrev pub EndsAt : ℕ → ℕ → Nesting → List Range → Type 0
EndsAt height end old ranges =
    (place : ℕ) (r : Range) → slice_get old.stack.items height ≡ Some place → slice_get old.ranges.items place ≡ Some r
    → ranges ≡ slice_set old.ranges.items place (range r.start end r.count)

-- The place of the next range is put on the stack.
abbrev pub IsPut : Nesting → List ℕ → Type 0
IsPut old stack = stack ≡ old.stack.items ++ length old.ranges.items ∷ []

-- The heights of other counts stay.
abbrev pub OthersStay : ℕ → Nesting → Nesting → Type 0
OthersStay own old new = (count : ℕ) → ¬ (count ≡ own) → height_told new count ≡ height_told old count
