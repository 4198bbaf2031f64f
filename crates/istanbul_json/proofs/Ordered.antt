-- A list that was put in strict order, against its elements put in one after the other.
use Rattle.std.proofs.Common.{◌≡◌, Bool, true, false, true≢false, cond, append-nil, List, [], ◌∷◌, ◌++◌, reverse, refl, sym, ap, ◌∙◌, subst, Ordering}
use Rattle.std.specs.Prelude.{filter, ◌&&◌, ⊤}
use Rattle.std.specs.declared.cmp.Ordering.TheVariants.{Less, Equal, Greater}
use Rattle.std.specs.Ordering.{is_lt, is_eq, ordering_reverse}
use Rattle.std.specs.Cmp.{IsTotalOrder}
use Rattle.std.specs.List.{AllByRecursion, list_all}
use Rattle.std.specs.List.Sorted.{IsStableBy, ties}
use Rattle.std.proofs.lemmas.List.{reverse-append}
use Rattle.std.proofs.lemmas.List.Elements.{filter-append}
use Rattle.cov_text.specs.Listing.{in_order}
use Rattle.istanbul_json.specs.Walks.{rising}
use Rattle.istanbul_json.proofs.Sorted as sorted
use Rattle.istanbul_json.proofs.Inserted.{placed, less, ranks, IsStrict, AreApart, ApartFrom, apart-strict, apart-placed, strict-placed, strict-in_order, rising-strict, none_pass, by_order, filter-in_order, filter-placed, all-map}

abbrev FewOf : {A : Type 0} → List A → Type 0
FewOf [] = ⊤
FewOf (x ∷ []) = ⊤
FewOf (x ∷ y ∷ l) = ⊥

few-reversed : {A : Type 0} (l : List A) → FewOf l → reverse l ≡ l
few-reversed [] h = refl
few-reversed (x ∷ []) h = refl
few-reversed (x ∷ y ∷ l) h = absurd h

none-beside : {A : Type 0} (x : A) (l : List A) → FewOf (x ∷ l) → l ≡ []
none-beside x [] h = refl
none-beside x (y ∷ l) h = absurd h

less_is : (o : Ordering) → is_lt o ≡ true → o ≡ Less
less_is Less e = refl
less_is Equal e = cc
less_is Greater e = cc

-- the first goes to the end
pub reverse-cons : {A : Type 0} (x : A) (xs : List A) → reverse (x ∷ xs) ≡ reverse xs ++ x ∷ []
reverse-cons x xs = reverse-append (x ∷ []) xs

filter-reversed : {A : Type 0} (p : A → Bool) (xs : List A) → filter p (reverse xs) ≡ reverse (filter p xs)
filter-reversed p [] = refl
filter-reversed p (x ∷ xs) =
    ap (filter p) (reverse-cons x xs)
    ∙ filter-append p (reverse xs) (x ∷ [])
    ∙ ap (λ l. l ++ cond (p x) (x ∷ []) []) (filter-reversed p xs)
    ∙ elim (p x) as (λ t. reverse (filter p xs) ++ cond t (x ∷ []) [] ≡ reverse (cond t (x ∷ filter p xs) (filter p xs))) [
      | true ↦ sym (reverse-cons x (filter p xs))
      | false ↦ append-nil (reverse (filter p xs))
    ]

module _ {A : Type 0} (cmp : A → A → Ordering) (total : IsTotalOrder cmp) where
  first-least : (x : A) (ys : List A) → rising cmp (x ∷ ys) ≡ true → AllByRecursion (λ y. cmp x y ≡ Less) ys
  first-least x [] h = tt
  first-least x (y ∷ ys) h =
      let parts = sorted.both_true (is_lt (cmp x y)) (rising cmp (y ∷ ys)) h in
      let here = less_is (cmp x y) parts.0 in
      (here, all-map (λ w e. total.trans x y w here e) ys (first-least y ys parts.1))

  pub strict-rising : (xs : List A) → rising cmp xs ≡ true → IsStrict cmp total xs
  strict-rising [] h = tt
  strict-rising (x ∷ []) h = (tt, tt)
  strict-rising (x ∷ y ∷ ys) h =
      let parts = sorted.both_true (is_lt (cmp x y)) (rising cmp (y ∷ ys)) h in
      (first-least x (y ∷ ys) h, strict-rising (y ∷ ys) parts.1)

  few-apart : (z : A) (xs : List A) → AreApart cmp total xs → FewOf (filter (ties (less cmp total) z) xs)
  few-apart z [] h = tt
  few-apart z (x ∷ xs) h =
      let p = ties (less cmp total) z in
      elim (p x) as (λ t. p x ≡ t → FewOf (cond t (x ∷ filter p xs) (filter p xs))) [
        | true ↦ λ e. subst (λ l. FewOf (x ∷ l)) (sym (none_pass cmp total z x xs e h.0)) tt
        | false ↦ λ e. few-apart z xs h.1
      ] refl

  few-behind : (p : A → Bool) (x : A) (xs : List A) → FewOf (filter p (x ∷ xs)) → FewOf (filter p xs)
  few-behind p x xs = elim (p x) as (λ t. FewOf (cond t (x ∷ filter p xs) (filter p xs)) → FewOf (filter p xs)) [
    | true ↦ λ h. subst FewOf (sym (none-beside x (filter p xs) h)) tt
    | false ↦ λ h. h
  ]

  no-tie-apart : (x y : A) → ties (less cmp total) x y ≡ false → is_eq (cmp x y) ≡ false
  no-tie-apart x y e =
      by_order (cmp x y) (λ o. ap is_eq o)
      (λ o.
      let tie = sorted.ties_when (less cmp total) (ranks cmp total) x y (ap is_lt o) (ap is_lt (total.antisymm y x ∙ ap ordering_reverse o)) in
      absurd (true≢false (sym tie ∙ e)))
      (λ o. ap is_eq o)

  kept-none : (x : A) (l : List A) → x ∷ l ≡ [] → ⊥
  kept-none x l e = cc

  -- x is apart from those that it doesn't tie with
  apart-none : (x : A) (ys : List A) → filter (ties (less cmp total) x) ys ≡ [] → ApartFrom cmp total x ys
  apart-none x [] h = tt
  apart-none x (y ∷ ys) h =
      let p = ties (less cmp total) x in
      elim (p y) as (λ t. p y ≡ t → cond t (y ∷ filter p ys) (filter p ys) ≡ [] → (is_eq (cmp x y) ≡ false) × ApartFrom cmp total x ys) [
        | true ↦ λ e none. absurd (kept-none y (filter p ys) none)
        | false ↦ λ e none. (no-tie-apart x y e, apart-none x ys none)
      ] refl h

  apart-few : (xs : List A) → ((z : A) → FewOf (filter (ties (less cmp total) z) xs)) → AreApart cmp total xs
  apart-few [] few = tt
  apart-few (x ∷ xs) few =
      let p = ties (less cmp total) x in
      let first : FewOf (x ∷ filter p xs) = subst (λ t. FewOf (cond t (x ∷ filter p xs) (filter p xs))) (sorted.own_tie (less cmp total) (ranks cmp total) x) (few x) in
      (apart-none x xs (none-beside x (filter p xs) first), apart-few xs (λ z. few-behind (ties (less cmp total) z) x xs (few z)))

  -- ---- xs in strict order are ys

  module _ (xs ys : List A) (rise : rising cmp ys ≡ true) (same : IsStableBy (less cmp total) xs ys) where
    strict : IsStrict cmp total ys
    strict = strict-rising ys rise

    few : (z : A) → FewOf (filter (ties (less cmp total) z) xs)
    few z = subst FewOf (same z) (few-apart z ys (apart-strict cmp total ys strict))

    back : (z : A) → filter (ties (less cmp total) z) (reverse xs) ≡ filter (ties (less cmp total) z) ys
    back z = filter-reversed (ties (less cmp total) z) xs ∙ few-reversed (filter (ties (less cmp total) z) xs) (few z) ∙ sym (same z)

    apart : AreApart cmp total (reverse xs)
    apart = apart-few (reverse xs) (λ z. subst FewOf (sym (back z)) (few-apart z ys (apart-strict cmp total ys strict)))

    -- each put at its place, the last first
    pub ordered-placed : placed cmp (reverse xs) ≡ ys
    ordered-placed =
        sorted.one_order (less cmp total) (ranks cmp total) (placed cmp (reverse xs)) ys (rising-strict cmp total _ (strict-placed cmp total (reverse xs) apart)) (rising-strict cmp total ys strict)
        (λ z. filter-placed cmp total cmp (λ x y e. e) z (reverse xs) apart ∙ back z)

    -- the same by another comparison, and then in order
    pub ordered-placed_by : (c : A → A → Ordering) → ((x y : A) → c x y ≡ Equal → cmp x y ≡ Equal) → in_order cmp (placed c (reverse xs)) ≡ ys
    ordered-placed_by c exact =
        sorted.one_order (less cmp total) (ranks cmp total) (in_order cmp (placed c (reverse xs))) ys (rising-strict cmp total _ (strict-in_order cmp total (placed c (reverse xs)))) (rising-strict cmp total ys strict)
        (λ z. filter-in_order cmp total z (placed c (reverse xs)) (apart-placed cmp total c exact (reverse xs) apart) ∙ filter-placed cmp total c exact z (reverse xs) apart ∙ back z)
