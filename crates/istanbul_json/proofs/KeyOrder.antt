-- Keys, shorter ones first.
use Rattle.std.proofs.Common.{◌≡◌, ℕ, false, List, [], ◌∷◌, length, map, refl, sym, ap, ◌∙◌, subst, Ordering}
use Rattle.std.specs.Ordering.{nat_cmp}
use Rattle.std.specs.declared.cmp.Ordering.TheVariants.{Less, Equal, Greater}
use Rattle.std.specs.Ordering.{is_eq, ordering_then}
use Rattle.std.specs.Cmp.{IsTotalOrder}
use Rattle.std.specs.List.{AllByRecursion, zip}
use Rattle.std.specs.List.Sorted.{IsSortedBy, IsStableBy, IsStrictlySortedBy}
use Rattle.std.proofs.lemmas.Cmp.{then_total, on_total, nat_cmp_total, nat_list_cmp_total, tied_itself}
use Rattle.std.proofs.lemmas.Map.Text.{is_eq-slice_cmp}
use Rattle.std.proofs.lemmas.Slice.Eq.{bytes_eq-Decides}
use Rattle.cov_text.specs.Listing.{text_cmp}
use Rattle.istanbul_json.specs.Answers.{AreRising}
use Rattle.istanbul_json.specs.Kept.{key_cmp, by_key}
use Rattle.istanbul_json.proofs.Inserted.{AreApart, ApartFrom, less, sort-is, placed, in_order-placed, in_order-twice}

key-total : IsTotalOrder key_cmp
key-total = then_total (on_total length nat_cmp_total) nat_list_cmp_total

module _ {A : Type 0} (key : A → List ℕ) where
  -- the order of elements by their keys
  abbrev pub cmp : A → A → Ordering
  cmp x y = key_cmp (key x) (key y)

  pub total : IsTotalOrder cmp
  total = on_total key key-total

  -- byte order of the keys
  abbrev pub bytes_cmp : A → A → Ordering
  bytes_cmp x y = text_cmp (key x) (key y)

pub same-key : (a b : List ℕ) → text_cmp a b ≡ Equal → a ≡ b
same-key a b e = (bytes_eq-Decides a b).0 (sym (is_eq-slice_cmp a b) ∙ ap is_eq e)

pub exact : {A : Type 0} (key : A → List ℕ) (x y : A) → bytes_cmp key x y ≡ Equal → cmp key x y ≡ Equal
exact key x y e = ap (λ k. key_cmp k (key y)) (same-key (key x) (key y) e) ∙ tied_itself key-total (key y)

apart-keys : (a b : List ℕ) → text_cmp a b ≡ Less → is_eq (key_cmp a b) ≡ false
apart-keys a b e = elim (nat_cmp (length a) (length b)) as (λ o. is_eq (ordering_then o (text_cmp a b)) ≡ false) [
  | Less ↦ refl
  | Equal ↦ ap is_eq e
  | Greater ↦ refl
]

-- ---- what is made of members whose keys rise

module _ {E C A : Type 0} (key : A → List ℕ) (made : (List ℕ × E) × (List ℕ × C) → A) (keeps : (x : (List ℕ × E) × (List ℕ × C)) → key (made x) ≡ x.0.0) where
  apart-from : (x : (List ℕ × E) × (List ℕ × C)) (ps : List (List ℕ × E)) (qs : List (List ℕ × C)) → AllByRecursion (λ k. text_cmp x.0.0 k ≡ Less) (map (λ p. p.0) ps)
      → ApartFrom (cmp key) (total key) (made x) (map made (zip ps qs))
  apart-from x [] qs h = tt
  apart-from x (p ∷ ps) [] h = tt
  apart-from x (p ∷ ps) (q ∷ qs) h =
      (ap (λ k. is_eq (key_cmp k (key (made (p, q))))) (keeps x) ∙ ap (λ k. is_eq (key_cmp x.0.0 k)) (keeps (p, q)) ∙ apart-keys x.0.0 p.0 h.0, apart-from x ps qs h.1)

  pub apart-made : (ps : List (List ℕ × E)) (qs : List (List ℕ × C)) → AreRising ps → AreApart (cmp key) (total key) (map made (zip ps qs))
  unfolding IsStrictlySortedBy
  apart-made [] qs h = tt
  apart-made (p ∷ ps) [] h = tt
  apart-made (p ∷ ps) (q ∷ qs) h = (apart-from (p, q) ps qs h.0, apart-made ps qs h.1)

-- what a stable sort by key gives
pub sorted-by_key : {A : Type 0} (key : A → List ℕ) (xs ys zs : List A) → xs ≡ zs → AreApart (cmp key) (total key) zs
    → IsSortedBy (less (cmp key) (total key)) ys → IsStableBy (less (cmp key) (total key)) xs ys → ys ≡ by_key key zs
sorted-by_key key xs ys zs is apart up stable =
    sort-is (cmp key) (total key) xs ys (subst (AreApart (cmp key) (total key)) (sym is) apart) up stable ∙ ap (by_key key) is

pub by_key-twice : {A : Type 0} (key : A → List ℕ) (xs : List A) → by_key key (by_key key xs) ≡ by_key key xs
by_key-twice key xs = in_order-twice (cmp key) (total key) xs

pub by_key-placed : {A : Type 0} (key : A → List ℕ) (xs : List A) → by_key key xs ≡ xs → by_key key (placed (bytes_cmp key) xs) ≡ xs
by_key-placed key xs e = in_order-placed (cmp key) (total key) (bytes_cmp key) (exact key) xs e

pub text-total : IsTotalOrder text_cmp
text-total = nat_list_cmp_total
