-- What was read of each item of a list, and of a member of an object.
use Rattle.std.specs.Prelude.{◌≡◌, ℕ, List, [], ◌∷◌, reverse, Option, Some, IfSome, ⊤}
use Rattle.serde_json.specs.Data.{Data, Items, no_items, item, Members, no_members, put}
use Rattle.serde_json.specs.Find.{get_member, as_array, as_object}

-- the data, as what kind gives of it
abbrev pub Is : {A : Type 0} → (Data → Option A) → A → Data → Type 0
Is kind x d = kind d ≡ Some x

-- each of xs was read of the item at its place
abbrev pub AreGiven : {A : Type 0} → (A → Data → Type 0) → List A → Items → Type 0
AreGiven gives [] no_items = ⊤
AreGiven gives [] (item d ds) = ⊥
AreGiven gives (x ∷ xs) no_items = ⊥
AreGiven gives (x ∷ xs) (item d ds) = gives x d × AreGiven gives xs ds

-- a list, each of whose items gives one of xs
abbrev pub GivesList : {A : Type 0} → (A → Data → Type 0) → List A → Data → Type 0
GivesList gives xs d = (ds : Items) × (as_array d ≡ Some ds) × AreGiven gives xs ds

-- what was found, if anything, was read of the member at this key
abbrev pub Has : {A : Type 0} → (A → Data → Type 0) → List ℕ → Members → Option A → Type 0
Has gives key ms found = IfSome found (λ x. (d : Data) × (get_member key ms ≡ Some d) × gives x d)

-- ms are the members of these keys, each put in after those behind it, in the place of one of its key
abbrev pub ArePutIn : {A : Type 0} → (A → List ℕ) → (A → Data → Type 0) → List A → Members → Type 0
ArePutIn key says [] ms = no_members ≡ ms
ArePutIn key says (x ∷ xs) ms =
    (d : Data) × (before : Members) × ArePutIn key says xs before × says x d × (put (key x) d before ≡ ms)

-- an object, made of these members one after the other
abbrev pub GivesObject : {A : Type 0} → (A → List ℕ) → (A → Data → Type 0) → List A → Data → Type 0
GivesObject key says xs d =
    (ms : Members) × (as_object d ≡ Some ms) × ArePutIn key says (reverse xs) ms
