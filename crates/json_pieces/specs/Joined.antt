-- Texts with commas between them.
use Rattle.std.specs.Prelude.{ℕ, suc, List, [], ◌∷◌, ◌++◌, Bool, true}
use Rattle.serde_json.specs.Data.{Data, Items, no_items, item}
use Rattle.serde_json.specs.Written.{comma_if}

-- the texts of the elements, each by its place, and a comma before the first one too, where something stands before it
abbrev pub joined : {A : Type 0} → (ℕ → A → List ℕ) → Bool → ℕ → List A → List ℕ
joined text_at later k [] = []
joined text_at later k (x ∷ xs) = comma_if later ++ (text_at k x ++ joined text_at true (suc k) xs)

-- a list as JSON, each element by its place
abbrev pub listed : {A : Type 0} → (ℕ → A → Data) → ℕ → List A → Items
listed shown k [] = no_items
listed shown k (x ∷ xs) = item (shown k x) (listed shown (suc k) xs)
