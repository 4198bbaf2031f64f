-- What is known of lists and members that were read, in the words of a snapshot's readers.
use Rattle.std.proofs.Common.{◌≡◌, ℕ, suc, Option, Some, List, [], ◌∷◌, refl}
use Rattle.std.specs.Prelude.{Result, Ok}
use Rattle.serde_json.specs.Data.{Data, Items, no_items, item, Members, object}
use Rattle.serde_json.specs.Find.{get_member}
use Rattle.json_walk.specs.Shape.{AreGiven}
use Rattle.cov_model.specs.declared.snapshot.Place.{Place}
use Rattle.cov_model.specs.declared.snapshot.Field as field
use Rattle.cov_model.specs.declared.snapshot.ShapeFault.{ShapeFault}
use Rattle.cov_model.specs.Reading.{member_as, each_item}

-- what each item gives, the list gives
pub each_given : {A : Type 0} (reads : ℕ → Data → Result A ShapeFault) (gives : A → Data → Type 0) → ((x : A) (d : Data) → gives x d → (k : ℕ) → reads k d ≡ Ok x)
    → (xs : List A) (ds : Items) → AreGiven gives xs ds → (k : ℕ) → each_item reads k ds ≡ Ok xs
each_given reads gives one [] no_items h k = refl
each_given reads gives one [] (item d ds) h k = absurd h
each_given reads gives one (x ∷ xs) no_items h k = absurd h
each_given reads gives one (x ∷ xs) (item d ds) h k = rw (one x d h.0 k) (rw (each_given reads gives one xs ds h.1 (suc k)))

-- a member that is there and of its kind
pub member_has : {A : Type 0} (kind : Data → Option A) (place : Place) (name : field.Field) (key : List ℕ) (ms : Members) (d : Data) (x : A) → get_member key ms ≡ Some d → kind d ≡ Some x
    → member_as kind place name key (object ms) ≡ Ok x
member_has kind place name key ms d x there is = rw (there) (rw (is))
