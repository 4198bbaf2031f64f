-- Nested ranges that grow at their end, and which of them may go on.
use Rattle.std.specs.Prelude.{◌≡◌, ◌+◌, ◌<◌, ◌≤◌, ℕ, suc, List, [], ◌∷◌, ◌++◌, ◌==◌, Option, None, Some, length, slice_get, if◌then◌else◌}
use Rattle.cov_model.specs.declared.report.Range.{Range}
use Rattle.cov_model.specs.Normal.{range}
use Rattle.cov_model.specs.Nested.{nest}

-- a range that may go on, and those listed inside it
pub record Level : Type 0 where
  pub range : Range
  pub inside : List Range

-- the ranges of all levels
abbrev pub listed : List Level → List Range
listed [] = []
listed (l ∷ ls) = l.range ∷ (l.inside ++ listed ls)

-- the places in that list of the levels' own ranges, from n on
abbrev pub places : ℕ → List Level → List ℕ
places n [] = []
places n (l ∷ ls) = n ∷ places (suc (n + length l.inside)) ls

-- Inside the range, however far it goes on, these are listed first; and from its end up to `at` its count doesn't come.
pub record MayGoOn (f : ℕ → ℕ) (at : ℕ) (l : Level) : Type 0 where
  pub reached : l.range.end ≤ at
  pub gone : (o : ℕ) → l.range.end ≤ o → o < at → ¬ (f o ≡ l.range.count)
  pub done : (y : ℕ) → l.range.end ≤ y → nest l.range.start y l.range.count f ≡ l.inside ++ nest l.range.end y l.range.count f

-- The levels' ranges lie end to end from `from` up to `at`, each from its count up to its count.
abbrev pub AreLevels : (ℕ → ℕ) → ℕ → ℕ → List Level → Type 0
AreLevels f from at [] = from ≡ at
AreLevels f from at (l ∷ ls) =
    (l.range.start ≡ from) × (from < l.range.end) × (f from ≡ l.range.count) × ((p : ℕ) × (l.range.end ≡ suc p) × (f p ≡ l.range.count)) × MayGoOn f at l
    × AreLevels f l.range.end at ls

-- The first level is that of the root.
abbrev pub IsStack : (ℕ → ℕ) → ℕ → ℕ → ℕ → List Level → Type 0
IsStack f start count at [] = ⊥
IsStack f start count at (l ∷ ls) = (l.range.start ≡ start) × (l.range.count ≡ count) × MayGoOn f at l × AreLevels f l.range.end at ls

-- The ranges are those of the levels, the stack has their places, and each level's count tells its height.
pub record Keeps (levels : List Level) (ranges : List Range) (stack : List ℕ) (height : ℕ → Option ℕ) : Type 0 where
  pub all : ranges ≡ listed levels
  pub own : stack ≡ places 0 levels
  pub counts : (h : ℕ) (l : Level) → slice_get levels h ≡ Some l → height l.range.count ≡ Some h

-- The ranges up to `at` of the nested list with these counts, that of the root ending where its count came last.
abbrev pub IsNesting : (ℕ → ℕ) → ℕ → ℕ → ℕ → List Range → List ℕ → (ℕ → Option ℕ) → Type 0
IsNesting f start count at ranges stack height = (levels : List Level) × IsStack f start count at levels × Keeps levels ranges stack height

-- The run is nonempty, and has its count at each offset.
abbrev pub Shows : (ℕ → ℕ) → Range → Type 0
Shows f run = (run.start < run.end) × ((o : ℕ) → run.start ≤ o → o < run.end → f o ≡ run.count)

-- Runs from `at` to the end that show these counts.
abbrev pub AllShow : (ℕ → ℕ) → ℕ → ℕ → List Range → Type 0
AllShow f at end [] = at ≡ end
AllShow f at end (run ∷ runs) = (run.start ≡ at) × Shows f run × AllShow f run.end end runs

-- the height where it is that of a range with the count
abbrev pub matched : ℕ → ℕ → Option Range → Option ℕ
matched count h None = None
matched count h (Some r) = if r.count == count then Some h else None

abbrev pub placed : List Range → ℕ → ℕ → Option ℕ → Option ℕ
placed ranges count h None = None
placed ranges count h (Some place) = matched count h (slice_get ranges place)

abbrev pub height_in : List Range → List ℕ → ℕ → Option ℕ → Option ℕ
height_in ranges stack count None = None
height_in ranges stack count (Some h) = placed ranges count h (slice_get stack h)

-- the ranges, the first of them up to the end
abbrev pub root_ended : ℕ → List Range → List Range
root_ended end [] = []
root_ended end (root ∷ rest) = range root.start end root.count ∷ rest

-- Ranges that lie end to end from s to e, none of them empty.
abbrev pub AreEndToEnd : ℕ → ℕ → List Range → Type 0
AreEndToEnd s e [] = s ≡ e
AreEndToEnd s e (r ∷ rs) = (r.start ≡ s) × (s < r.end) × AreEndToEnd r.end e rs
