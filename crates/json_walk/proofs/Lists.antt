-- Lists that grow at their end, and what is known of an object's members as they come.
use Rattle.std.proofs.Common.{◌≡◌, ℕ, suc, true, false, true≢false, Option, Some, None, List, [], ◌∷◌, ◌++◌, refl, sym, ◌∙◌, subst, append_assoc, append-nil, reverse, ap}
use Rattle.std.specs.Prelude.{Result, Ok, Err, OnOk, is_err}
use Rattle.std.specs.List.{AllByRecursion}
use Rattle.std.proofs.lemmas.List.{reverse-append}
use Rattle.std.specs.Str.{bytes_eq}
use Rattle.std.proofs.lemmas.Slice.Eq.{bytes_eq-Decides}
use Rattle.serde_json.specs.Data.{Data, Items, no_items, item, Members, no_members, put}
use Rattle.serde_json.specs.Find.{get_member}
use Rattle.serde_json.proofs.Views.{get_member-put, get_member-put_other}
use Rattle.json_walk.specs.Shape.{AreGiven, Has, ArePutIn}

module _ {A : Type 0} (gives : A → Data → Type 0) where
  -- What is left goes behind what was found, as the items that are left go behind those made.
  abbrev pub Goes : List A → (Items → Items) → Type 0
  Goes found made = (xs : List A) (ds : Items) → AreGiven gives xs ds → AreGiven gives (found ++ xs) (made ds)

  pub none_found : (found : List A) → found ≡ [] → Goes found (λ ds. ds)
  none_found found e xs ds h = subst (λ ys. AreGiven gives (ys ++ xs) ds) (sym e) h

  pub one_more : (found new : List A) (made : Items → Items) (x : A) (d : Data) → new ≡ found ++ x ∷ [] → gives x d → Goes found made → Goes new (λ ds. made (item d ds))
  one_more found new made x d e one all xs ds h =
      subst (λ ys. AreGiven gives (ys ++ xs) (made (item d ds))) (sym e)
      (subst (λ ys. AreGiven gives ys (made (item d ds))) (sym (append_assoc found (x ∷ []) xs)) (all (x ∷ xs) (item d ds) (one, h)))

  pub all_found : (found : List A) (made : Items → Items) → Goes found made → AreGiven gives found (made no_items)
  all_found found made all = subst (λ ys. AreGiven gives ys (made no_items)) (append-nil found) (all [] no_items tt)

pub on_ok_at : {A E P : Type 0} (r : Result A E) → false ≡ is_err r → OnOk r P → P
on_ok_at (Ok a) e h = h
on_ok_at (Err x) e h = absurd (true≢false (sym e))

pub all_given : {A : Type 0} (P : A → Type 0) (gives : A → Data → Type 0) → ((x : A) (d : Data) → gives x d → P x) → (xs : List A) (ds : Items) → AreGiven gives xs ds → AllByRecursion P xs
all_given P gives one [] no_items h = tt
all_given P gives one [] (item d ds) h = tt
all_given P gives one (x ∷ xs) no_items h = absurd h
all_given P gives one (x ∷ xs) (item d ds) h = (one x d h.0, all_given P gives one xs ds h.1)

-- ---- members of an object

-- one more member, the last that was put in
pub one_more_put : {A : Type 0} (key : A → List ℕ) (says : A → Data → Type 0) (found new : List A) (x : A) (d : Data) (name : List ℕ) (ms : Members) → new ≡ found ++ x ∷ [] → key x ≡ name → says x d
    → ArePutIn key says (reverse found) ms → ArePutIn key says (reverse new) (put name d ms)
one_more_put key says found new x d name ms e is one all =
    subst (λ xs. ArePutIn key says xs (put name d ms)) (sym (ap reverse e ∙ reverse-append found (x ∷ []))) (d, ms, all, one, ap (λ k. put k d ms) is)

pub none_put : {A : Type 0} (key : A → List ℕ) (says : A → Data → Type 0) (found : List A) → found ≡ [] → ArePutIn key says (reverse found) no_members
none_put key says found e = subst (λ xs. ArePutIn key says (reverse xs) no_members) (sym e) refl

pub same_text : (xs ys : List ℕ) → bytes_eq xs ys ≡ true → xs ≡ ys
same_text xs ys = (bytes_eq-Decides xs ys).0

pub other_text : (xs ys : List ℕ) → bytes_eq xs ys ≡ false → xs ≡ ys → ⊥
other_text xs ys is e = true≢false (sym ((bytes_eq-Decides xs ys).1 e) ∙ is)

-- the member that is put in, at the key
module _ (key : List ℕ) (d : Data) (ms : Members) where
  pub is_here : (wanted : List ℕ) → bytes_eq key wanted ≡ true → get_member wanted (put key d ms) ≡ Some d
  is_here wanted is = rw (← same_text key wanted is) (get_member-put key d ms)

  pub is_as_before : (wanted : List ℕ) → bytes_eq key wanted ≡ false → get_member wanted (put key d ms) ≡ get_member wanted ms
  is_as_before wanted other = get_member-put_other wanted key d ms (λ e. other_text key wanted other (sym e))

  -- the key is this one, and not the one that is wanted
  pub is_beside : (this wanted : List ℕ) → bytes_eq key this ≡ true → bytes_eq this wanted ≡ false → get_member wanted (put key d ms) ≡ get_member wanted ms
  is_beside this wanted is other = is_as_before wanted (rw (same_text key this is) other)

  pub has_here : {A : Type 0} (gives : A → Data → Type 0) (wanted : List ℕ) (x : A) → bytes_eq key wanted ≡ true → gives x d → Has gives wanted (put key d ms) (Some x)
  has_here gives wanted x is given = (d, is_here wanted is, given)

  still_has : {A : Type 0} (gives : A → Data → Type 0) (wanted : List ℕ) (found : Option A) → get_member wanted (put key d ms) ≡ get_member wanted ms → Has gives wanted ms found → Has gives wanted (put key d ms) found
  still_has gives wanted None same h = tt
  still_has gives wanted (Some x) same h = (h.0, same ∙ h.1, h.2)

  pub has_elsewhere : {A : Type 0} (gives : A → Data → Type 0) (wanted : List ℕ) (found : Option A) → bytes_eq key wanted ≡ false → Has gives wanted ms found → Has gives wanted (put key d ms) found
  has_elsewhere gives wanted found other h = still_has gives wanted found (is_as_before wanted other) h

  pub has_beside : {A : Type 0} (gives : A → Data → Type 0) (this wanted : List ℕ) (found : Option A) → bytes_eq key this ≡ true → bytes_eq this wanted ≡ false → Has gives wanted ms found → Has gives wanted (put key d ms) found
  has_beside gives this wanted found is other h = still_has gives wanted found (is_beside this wanted is other) h
