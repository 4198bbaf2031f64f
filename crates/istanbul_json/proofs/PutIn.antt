-- Members that were put in one after the other, in byte order of their keys.
use Rattle.std.proofs.Common.{◌≡◌, ℕ, suc, Bool, true, List, [], ◌∷◌, length, map, Option, Some, refl, sym, ap, ◌∙◌, subst, Ordering}
use Rattle.std.specs.Prelude.{Ok, Result, ⊤}
use Rattle.std.specs.Ordering.{match_ordering}
use Rattle.std.specs.declared.cmp.Ordering.TheVariants.{Less, Equal, Greater}
use Rattle.std.specs.BTreeSet.{replace_key}
use Rattle.cov_text.specs.Listing.{text_cmp}
use Rattle.serde_json.specs.Data.{Data, Members, no_members, member, put}
use Rattle.json_shapes.specs.Members.{each_member}
use Rattle.json_walk.specs.Shape.{ArePutIn}
use Rattle.istanbul_json.specs.declared.file.FileParts.{FileParts}
use Rattle.istanbul_json.specs.Coverage.{files_from}
use Rattle.istanbul_json.specs.Walks.{SaysFile, shown_by}
use Rattle.istanbul_json.proofs.Inserted.{placed}
use Rattle.istanbul_json.proofs.KeyOrder.{bytes_cmp, same-key}

module _ {A : Type 0} (key : A → List ℕ) (says : A → Data → Type 0) where
  -- each of xs is read of the member at its place
  abbrev pub AreInTurn : List A → Members → Type 0
  AreInTurn [] no_members = ⊤
  AreInTurn [] (member k d ms) = ⊥
  AreInTurn (x ∷ xs) no_members = ⊥
  AreInTurn (x ∷ xs) (member k d ms) = (key x ≡ k) × says x d × AreInTurn xs ms

  in-turn-put : (x : A) (d : Data) → says x d → (xs : List A) (ms : Members) → AreInTurn xs ms → AreInTurn (replace_key (bytes_cmp key) xs x) (put (key x) d ms)
  in-turn-put x d one [] no_members h = (refl, one, tt)
  in-turn-put x d one [] (member k e ms) h = absurd h
  in-turn-put x d one (y ∷ ys) no_members h = absurd h
  in-turn-put x d one (y ∷ ys) (member k e ms) h =
      subst
      (λ q. AreInTurn (match_ordering (text_cmp (key x) (key y)) (x ∷ y ∷ ys) (x ∷ ys) (y ∷ replace_key (bytes_cmp key) ys x))
      (match_ordering (text_cmp (key x) q) (member (key x) d (member k e ms)) (member k d ms) (member k e (put (key x) d ms))))
      h.0
      (elim (text_cmp (key x) (key y)) as (λ o. text_cmp (key x) (key y) ≡ o
      → AreInTurn (match_ordering o (x ∷ y ∷ ys) (x ∷ ys) (y ∷ replace_key (bytes_cmp key) ys x)) (match_ordering o (member (key x) d (member k e ms)) (member k d ms) (member k e (put (key x) d ms)))) [
        | Less ↦ λ o. (refl, one, h)
        | Equal ↦ λ o. (same-key (key x) (key y) o ∙ h.0, one, h.2)
        | Greater ↦ λ o. (h.0, h.1, in-turn-put x d one ys ms h.2)
      ] refl)

  pub in-turn : (xs : List A) (ms : Members) → ArePutIn key says xs ms → AreInTurn (placed (bytes_cmp key) xs) ms
  in-turn [] ms h = subst (AreInTurn []) h tt
  in-turn (x ∷ xs) ms h =
      let before = in-turn xs h.1 h.2 in
      subst (AreInTurn (placed (bytes_cmp key) (x ∷ xs))) h.4 (in-turn-put x h.0 h.3 (placed (bytes_cmp key) xs) h.1 before)

pub members-read : {A E : Type 0} (key : A → List ℕ) (part : A → E) (says : A → Data → Type 0) (reads : Data → Option E) → ((x : A) (d : Data) → says x d → reads d ≡ Some (part x))
    → (xs : List A) (ms : Members) → AreInTurn key says xs ms → each_member reads ms ≡ Some (shown_by key part xs)
members-read key part says reads is [] no_members h = refl
members-read key part says reads is [] (member k d ms) h = absurd h
members-read key part says reads is (x ∷ xs) no_members h = absurd h
members-read key part says reads is (x ∷ xs) (member k d ms) h =
    rw (is x d h.1) (rw (members-read key part says reads is xs ms h.2) (ap (λ q. Some ((q, part x) ∷ shown_by key part xs)) (sym h.0)))

pub files-read : (k : ℕ) (fs : List FileParts) (ms : Members) → AreInTurn (λ f. f.path) SaysFile fs ms → files_from k ms ≡ Ok fs
files-read k [] no_members h = refl
files-read k [] (member name d ms) h = absurd h
files-read k (f ∷ fs) no_members h = absurd h
files-read k (f ∷ fs) (member name d ms) h = rw (← h.0) (rw (h.1 k) (rw (files-read (suc k) fs ms h.2)))

-- ---- one key, whatever is shown beside it

shown-replaced : {A E : Type 0} (key : A → List ℕ) (part : A → E) (x : A) (ys : List A)
    → replace_key (bytes_cmp (λ p. p.0)) (shown_by key part ys) (key x, part x) ≡ shown_by key part (replace_key (bytes_cmp key) ys x)
shown-replaced key part x [] = refl
shown-replaced key part x (y ∷ ys) =
    elim (text_cmp (key x) (key y)) as (λ o.
    match_ordering o ((key x, part x) ∷ (key y, part y) ∷ shown_by key part ys) ((key x, part x) ∷ shown_by key part ys) ((key y, part y) ∷ replace_key (bytes_cmp (λ p. p.0)) (shown_by key part ys) (key x, part x))
    ≡ shown_by key part (match_ordering o (x ∷ y ∷ ys) (x ∷ ys) (y ∷ replace_key (bytes_cmp key) ys x))) [
      | Less ↦ refl
      | Equal ↦ refl
      | Greater ↦ ap (λ l. (key y, part y) ∷ l) (shown-replaced key part x ys)
    ]

pub shown-placed : {A E : Type 0} (key : A → List ℕ) (part : A → E) (xs : List A) → placed (bytes_cmp (λ p. p.0)) (shown_by key part xs) ≡ shown_by key part (placed (bytes_cmp key) xs)
shown-placed key part [] = refl
shown-placed key part (x ∷ xs) =
    ap (λ l. replace_key (bytes_cmp (λ p. p.0)) l (key x, part x)) (shown-placed key part xs) ∙ shown-replaced key part x (placed (bytes_cmp key) xs)
