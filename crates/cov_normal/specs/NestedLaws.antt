-- What holds of nested normal lists.
use Rattle.std.specs.Prelude.{◌≡◌, ◌<◌, ◌≤◌, ℕ, List, [], ◌∷◌, Some}
use Rattle.cov_model.specs.declared.report.Range.{Range}
use Rattle.cov_model.specs.Nesting.{inner, inner_count}
use Rattle.cov_model.specs.Nested.{nest, nested}
use Rattle.cov_normal.specs.Nests.{Nests}

-- The list is one that the cases give, however deep it goes.
abbrev pub ItIsByCases : Type 0
ItIsByCases = (start end count : ℕ) (f : ℕ → ℕ) → Nests f start end count (nest start end count f)

-- They give no other.
abbrev pub NoOtherIs : Type 0
NoOtherIs = (start end count : ℕ) (f : ℕ → ℕ) (ranges : List Range) → Nests f start end count ranges → ranges ≡ nest start end count f

-- At each offset its innermost count is the one that it was made of.
abbrev pub ItCounts : Type 0
ItCounts = (start end count : ℕ) (f : ℕ → ℕ) (o : ℕ) → start ≤ o → o < end → inner (nested start end count f) o ≡ Some (f o)

-- The list is the nested normal list of its own root and innermost counts.
abbrev pub IsNested : List Range → Type 0
IsNested [] = ⊥
IsNested (root ∷ rest) = (root.start ≤ root.end) × (root ∷ rest ≡ nested root.start root.end root.count (inner_count (root ∷ rest)))

-- The nested list of a root and counts is one.
abbrev pub ItIsNested : Type 0
ItIsNested = (start end count : ℕ) (f : ℕ → ℕ) → start ≤ end → IsNested (nested start end count f)

-- Two such lists of one root with equal counts at each offset are one.
abbrev pub TwoAreOne : Type 0
TwoAreOne =
    (root : Range) (a b : List Range) → IsNested (root ∷ a) → IsNested (root ∷ b)
    → ((o : ℕ) → root.start ≤ o → o < root.end → inner_count (root ∷ a) o ≡ inner_count (root ∷ b) o) → a ≡ b
