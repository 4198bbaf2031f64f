-- Lists that an object may tell, and what a call does to them.
use Rattle.std.specs.Prelude.{◌≡◌, ◌⊎◌, List, [], ◌∷◌, ◌++◌, Option, option_map, Result, Ok, Err, OnOk, IsErrOf}

-- a told list with one more item at its end
abbrev pub ending_with : {A : Type 0} → A → Option (List A) → Option (List A)
ending_with x told = option_map (λ xs. xs ++ x ∷ []) told

-- a told list with one more item at its head
abbrev pub beginning_with : {A : Type 0} → A → Option (List A) → Option (List A)
beginning_with x told = option_map (λ xs. x ∷ xs) told

-- A call adds an item at the end where it answers Ok. After a failure the item was added or not, after want of memory it wasn't.
pub record Adds {A T E : Type 0} (failure want : E) (item : A) (before now : Option (List A)) (result : Result T E) : Type 0 where
  pub added : OnOk result (now ≡ ending_with item before)
  pub maybe : IsErrOf result failure → (now ≡ before) ⊎ (now ≡ ending_with item before)
  pub not_added : IsErrOf result want → now ≡ before

-- A call takes the first item, which it answers. Otherwise the list stays.
abbrev pub Takes : {A E : Type 0} → Option (List A) → Option (List A) → Result A E → Type 0
Takes before now (Ok x) = before ≡ beginning_with x now
Takes before now (Err fault) = now ≡ before
