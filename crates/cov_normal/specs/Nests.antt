-- The nested normal list by cases.
use Rattle.std.specs.Prelude.{◌≡◌, ◌<◌, ◌≤◌, ℕ, suc, List, [], ◌∷◌, ◌++◌}
use Rattle.cov_model.specs.declared.report.Range.{Range}
use Rattle.cov_model.specs.Normal.{range}

-- Inside start..end, which counts c by itself, a is the first offset with another count, b the first behind it with c
-- again, or else the end, and p the last one before b with the count of a.
pub record IsChild (f : ℕ → ℕ) (start end c a b p : ℕ) : Type 0 where
  pub from : start ≤ a
  pub to : b ≤ end
  pub first : (o : ℕ) → start ≤ o → o < a → f o ≡ c
  pub other : (o : ℕ) → a ≤ o → o < b → ¬ (f o ≡ c)
  pub back : b < end → f b ≡ c
  pub low : a ≤ p
  pub high : p < b
  pub same : f p ≡ f a
  pub last : (o : ℕ) → p < o → o < b → ¬ (f o ≡ f a)

-- The ranges inside start..end: none where each offset has the count c. Else one from the first offset with another count
-- up to the last with that count before c comes again, then those inside it, then those behind it.
pub data Nests (f : ℕ → ℕ) : ℕ → ℕ → ℕ → List Range → Type 0 where
  plain : (start end c : ℕ) (ranges : List Range) → ((o : ℕ) → start ≤ o → o < end → f o ≡ c) → ranges ≡ [] → Nests f start end c ranges
  child : (start end c a b p : ℕ) (inside behind ranges : List Range) → IsChild f start end c a b p
      → Nests f a (suc p) (f a) inside → Nests f (suc p) end c behind → ranges ≡ range a (suc p) (f a) ∷ (inside ++ behind) → Nests f start end c ranges
