-- Elements that are lent, in byte order of their keys.
use Rattle.std.proofs.Common.{◌≡◌, ℕ, false, List, [], ◌∷◌, map, refl, sym, ap, ◌∙◌, subst, Ordering}
use Rattle.std.specs.declared.cmp.Ordering.TheVariants.{Less, Equal, Greater}
use Rattle.std.specs.Ordering.{is_eq, match_ordering}
use Rattle.std.specs.Cmp.{IsTotalOrder}
use Rattle.std.specs.List.Sorted.{IsSortedBy, IsStableBy}
use Rattle.std.specs.BTreeSet.{replace_key}
use Rattle.std.proofs.lemmas.Cmp.{on_total}
use Rattle.serde_json.specs.Data.{Data}
use Rattle.cov_text.specs.Listing.{text_cmp}
use Rattle.istanbul_json.specs.Kept.{key_cmp, by_key}
use Rattle.istanbul_json.specs.Value.{members_by, in_turn}
use Rattle.istanbul_json.proofs.Inserted.{AreApart, ApartFrom, less, placed, apart-in_order, sort-places}
use Rattle.istanbul_json.proofs.KeyOrder.{cmp, total, bytes_cmp, exact, text-total}
use Rattle.istanbul_json.proofs.ReadBack.{members-placed}

-- keys that are apart in one order are apart in the other
apart-bytes : (a b : List ℕ) → is_eq (key_cmp a b) ≡ false → is_eq (text_cmp a b) ≡ false
apart-bytes a b h = elim (text_cmp a b) as (λ o. text_cmp a b ≡ o → is_eq o ≡ false) [
  | Less ↦ λ e. refl
  | Equal ↦ λ e. let same = sym (ap is_eq (exact (λ k. k) a b e)) ∙ h in cc
  | Greater ↦ λ e. refl
] refl

module _ {A B : Type 0} (f : B → A) (c : A → A → Ordering) where
  replace-map : (x : B) (ys : List B) → map f (replace_key (λ x y. c (f x) (f y)) ys x) ≡ replace_key c (map f ys) (f x)
  replace-map x [] = refl
  replace-map x (y ∷ ys) =
      elim (c (f x) (f y)) as (λ o. map f (match_ordering o (x ∷ y ∷ ys) (x ∷ ys) (y ∷ replace_key (λ x y. c (f x) (f y)) ys x))
      ≡ match_ordering o (f x ∷ f y ∷ map f ys) (f x ∷ map f ys) (f y ∷ replace_key c (map f ys) (f x))) [
        | Less ↦ refl
        | Equal ↦ refl
        | Greater ↦ ap (λ l. f y ∷ l) (replace-map x ys)
      ]

  placed-map : (xs : List B) → map f (placed (λ x y. c (f x) (f y)) xs) ≡ placed c (map f xs)
  placed-map [] = refl
  placed-map (x ∷ xs) = replace-map x (placed (λ x y. c (f x) (f y)) xs) ∙ ap (λ l. replace_key c l (f x)) (placed-map xs)

module _ {A B : Type 0} (f : B → A) (key : A → List ℕ) where
  -- byte order of the keys of what is lent
  abbrev pub lent_cmp : B → B → Ordering
  lent_cmp x y = bytes_cmp key (f x) (f y)

  pub lent-total : IsTotalOrder lent_cmp
  lent-total = on_total (λ x. key (f x)) text-total

  apart-from : (x : B) (ys : List B) → ApartFrom (cmp key) (total key) (f x) (map f ys) → ApartFrom lent_cmp lent-total x ys
  apart-from x [] h = tt
  apart-from x (y ∷ ys) h = (apart-bytes (key (f x)) (key (f y)) h.0, apart-from x ys h.1)

  are-apart : (xs : List B) → AreApart (cmp key) (total key) (map f xs) → AreApart lent_cmp lent-total xs
  are-apart [] h = tt
  are-apart (x ∷ xs) h = (apart-from x xs h.0, are-apart xs h.1)

  -- what a stable sort of them makes of the members
  pub in-turn : (items : List A) (lent sorted : List B) → map f lent ≡ items → by_key key items ≡ items → IsSortedBy (less lent_cmp lent-total) sorted
      → IsStableBy (less lent_cmp lent-total) lent sorted → (shown : A → Data) → members_by key shown items ≡ in_turn key shown (map f sorted)
  in-turn items lent sorted is order up stable shown =
      let apart = are-apart lent (subst (AreApart (cmp key) (total key)) (sym is) (apart-in_order (cmp key) (total key) items order)) in
      ap (members_by key shown) (sym is)
      ∙ members-placed key shown (map f lent)
      ∙ ap (in_turn key shown) (sym (placed-map f (bytes_cmp key) lent) ∙ ap (map f) (sym (sort-places lent_cmp lent-total lent sorted apart up stable)))
