-- A list whose elements are apart, put in order.
use Rattle.std.proofs.Common.{◌≡◌, Bool, true, false, cond, List, [], ◌∷◌, ◌++◌, refl, sym, ap, ◌∙◌, subst, Ordering}
use Rattle.std.specs.Prelude.{filter, not, ◌&&◌, ⊤}
use Rattle.std.specs.declared.cmp.Ordering.TheVariants.{Less, Equal, Greater}
use Rattle.std.specs.Ordering.{is_lt, is_eq, match_ordering, ordering_reverse}
use Rattle.std.specs.Cmp.{IsTotalOrder, IsStrictWeakOrder}
use Rattle.std.specs.List.{AllByRecursion, list_all}
use Rattle.std.specs.List.Sorted.{IsSortedBy, IsStableBy, ties}
use Rattle.std.specs.BTreeSet.{insert_key, replace_key}
use Rattle.std.proofs.lemmas.List.{append-nil, append_assoc}
use Rattle.std.proofs.lemmas.List.Elements.{filter-append}
use Rattle.std.proofs.lemmas.List.Sorted.{ranks_by}
use Rattle.cov_text.specs.Listing.{inserted, in_order}
use Rattle.istanbul_json.proofs.Sorted as sorted

pub by_order : {P : Type 0} (o : Ordering) → (o ≡ Less → P) → (o ≡ Equal → P) → (o ≡ Greater → P) → P
by_order Less a b c = a refl
by_order Equal a b c = b refl
by_order Greater a b c = c refl

is_eq-reverse : (o : Ordering) → is_eq (ordering_reverse o) ≡ is_eq o
is_eq-reverse Less = refl
is_eq-reverse Equal = refl
is_eq-reverse Greater = refl

pub all-map : {A : Type 0} {P Q : A → Type 0} → ((x : A) → P x → Q x) → (xs : List A) → AllByRecursion P xs → AllByRecursion Q xs
all-map f [] h = tt
all-map f (x ∷ xs) h = (f x h.0, all-map f xs h.1)

pub all-with : {A : Type 0} {P Q R : A → Type 0} → ((x : A) → P x → Q x → R x) → (xs : List A) → AllByRecursion P xs → AllByRecursion Q xs → AllByRecursion R xs
all-with f [] h k = tt
all-with f (x ∷ xs) h k = (f x h.0 k.0, all-with f xs h.1 k.1)

-- the elements, each put at its place among those behind it
abbrev pub placed : {A : Type 0} → (A → A → Ordering) → List A → List A
placed c [] = []
placed c (x ∷ xs) = replace_key c (placed c xs) x

module _ {A : Type 0} (c : A → A → Ordering) where
  pub all-replace : (P : A → Type 0) (x : A) (ys : List A) → P x → AllByRecursion P ys → AllByRecursion P (replace_key c ys x)
  all-replace P x [] p h = (p, tt)
  all-replace P x (y ∷ ys) p h =
      elim (c x y) as (λ o. AllByRecursion P (match_ordering o (x ∷ y ∷ ys) (x ∷ ys) (y ∷ replace_key c ys x))) [
        | Less ↦ (p, h)
        | Equal ↦ (p, h.1)
        | Greater ↦ (h.0, all-replace P x ys p h.1)
      ]

  pub all-placed : (P : A → Type 0) (xs : List A) → AllByRecursion P xs → AllByRecursion P (placed c xs)
  all-placed P [] h = tt
  all-placed P (x ∷ xs) h = all-replace P x (placed c xs) h.0 (all-placed P xs h.1)

  all-insert : (P : A → Type 0) (x : A) (ys : List A) → P x → AllByRecursion P ys → AllByRecursion P (insert_key c ys x)
  all-insert P x [] p h = (p, tt)
  all-insert P x (y ∷ ys) p h =
      elim (c x y) as (λ o. AllByRecursion P (match_ordering o (x ∷ y ∷ ys) (y ∷ ys) (y ∷ insert_key c ys x))) [
        | Less ↦ (p, h)
        | Equal ↦ h
        | Greater ↦ (h.0, all-insert P x ys p h.1)
      ]

module _ {A : Type 0} (cmp : A → A → Ordering) (total : IsTotalOrder cmp) where
  abbrev pub less : A → A → Bool
  less x y = is_lt (cmp x y)

  pub ranks : IsStrictWeakOrder less
  ranks = ranks_by total (λ x. x)

  -- x is none of these
  abbrev pub ApartFrom : A → List A → Type 0
  ApartFrom x ys = AllByRecursion (λ y. is_eq (cmp x y) ≡ false) ys

  abbrev pub AreApart : List A → Type 0
  AreApart [] = ⊤
  AreApart (x ∷ xs) = ApartFrom x xs × AreApart xs

  apart-back : (x y : A) → is_eq (cmp x y) ≡ false → is_eq (cmp y x) ≡ false
  apart-back x y e = ap is_eq (total.antisymm y x) ∙ is_eq-reverse (cmp x y) ∙ e

  -- ---- those of one rank

  tie_is : (z x : A) → ties less z x ≡ true → cmp z x ≡ Equal
  tie_is z x e =
      let parts = sorted.both_true (not (less z x)) (not (less x z)) e in
      let left = sorted.not_true (less z x) parts.0 in
      let right = sorted.not_true (less x z) parts.1 in
      by_order (cmp z x) (λ o. absurd (let f = sym (ap is_lt o) ∙ left in cc)) (λ o. o)
      (λ o. absurd (let f = sym (ap is_lt (total.antisymm x z ∙ ap ordering_reverse o)) ∙ right in cc))

  one_rank : (z x y : A) → ties less z x ≡ true → ties less z y ≡ true → is_eq (cmp x y) ≡ true
  one_rank z x y e f = ap is_eq (sym (total.congr z x y (tie_is z x e)) ∙ tie_is z y f)

  pub none_pass : (z x : A) (ys : List A) → ties less z x ≡ true → ApartFrom x ys → filter (ties less z) ys ≡ []
  none_pass z x [] e h = refl
  none_pass z x (y ∷ ys) e h =
      let none = none_pass z x ys e h.1 in
      elim (ties less z y) as (λ t. ties less z y ≡ t → cond t (y ∷ filter (ties less z) ys) (filter (ties less z) ys) ≡ []) [
        | true ↦ λ f. absurd (let g = sym (one_rank z x y e f) ∙ h.0 in cc)
        | false ↦ λ f. none
      ] refl

  -- x behind those that it is apart from
  to_end : (z x : A) (ys : List A) → ApartFrom x ys → filter (ties less z) (x ∷ ys) ≡ filter (ties less z) (ys ++ x ∷ [])
  to_end z x ys h =
      let p = ties less z in
      elim (p x) as (λ t. p x ≡ t → cond t (x ∷ filter p ys) (filter p ys) ≡ filter p ys ++ cond t (x ∷ []) []) [
        | true ↦ λ e. ap (λ (l : List A). x ∷ l) (none_pass z x ys e h) ∙ ap (λ (l : List A). l ++ x ∷ []) (sym (none_pass z x ys e h))
        | false ↦ λ e. sym (append-nil (filter p ys))
      ] refl
      ∙ sym (filter-append p ys (x ∷ []))

  swap : (t u : Bool) (x y : A) (l : List A) → (t ≡ true → u ≡ true → ⊥)
      → cond u (y ∷ cond t (x ∷ l) l) (cond t (x ∷ l) l) ≡ cond t (x ∷ cond u (y ∷ l) l) (cond u (y ∷ l) l)
  swap true true x y l h = absurd (h refl refl)
  swap true false x y l h = refl
  swap false true x y l h = refl
  swap false false x y l h = refl

  module _ (c : A → A → Ordering) (exact : (x y : A) → c x y ≡ Equal → cmp x y ≡ Equal) where
    not_equal : {P : Type 0} (x y : A) → is_eq (cmp x y) ≡ false → c x y ≡ Equal → P
    not_equal x y h o = let e = sym (ap is_eq (exact x y o)) ∙ h in cc

    filter-insert : (z x : A) (ys : List A) → ApartFrom x ys → filter (ties less z) (insert_key c ys x) ≡ filter (ties less z) (x ∷ ys)
    filter-insert z x [] h = refl
    filter-insert z x (y ∷ ys) h =
        let p = ties less z in
        elim (c x y) as (λ o. c x y ≡ o → filter p (match_ordering o (x ∷ y ∷ ys) (y ∷ ys) (y ∷ insert_key c ys x)) ≡ filter p (x ∷ y ∷ ys)) [
          | Less ↦ λ o. refl
          | Equal ↦ λ o. not_equal x y h.0 o
          | Greater ↦ λ o.
              ap (λ (l : List A). cond (p y) (y ∷ l) l) (filter-insert z x ys h.1)
              ∙ swap (p x) (p y) x y (filter p ys) (λ e f. let g = sym (one_rank z x y e f) ∙ h.0 in cc)
        ] refl

    same-place : (x : A) (ys : List A) → ApartFrom x ys → replace_key c ys x ≡ insert_key c ys x
    same-place x [] h = refl
    same-place x (y ∷ ys) h =
        elim (c x y) as (λ o. c x y ≡ o → match_ordering o (x ∷ y ∷ ys) (x ∷ ys) (y ∷ replace_key c ys x) ≡ match_ordering o (x ∷ y ∷ ys) (y ∷ ys) (y ∷ insert_key c ys x)) [
          | Less ↦ λ o. refl
          | Equal ↦ λ o. not_equal x y h.0 o
          | Greater ↦ λ o. ap (λ (l : List A). y ∷ l) (same-place x ys h.1)
        ] refl

    pub filter-placed : (z : A) (xs : List A) → AreApart xs → filter (ties less z) (placed c xs) ≡ filter (ties less z) xs
    filter-placed z [] h = refl
    filter-placed z (x ∷ xs) h =
        let apart : ApartFrom x (placed c xs) = all-placed c _ xs h.0 in
        ap (filter (ties less z)) (same-place x (placed c xs) apart)
        ∙ filter-insert z x (placed c xs) apart
        ∙ ap (λ (l : List A). cond (ties less z x) (x ∷ l) l) (filter-placed z xs h.1)

    apart-replace : (x : A) (ys : List A) → ApartFrom x ys → AreApart ys → AreApart (replace_key c ys x)
    apart-replace x [] h k = (tt, tt)
    apart-replace x (y ∷ ys) h k =
        elim (c x y) as (λ o. AreApart (match_ordering o (x ∷ y ∷ ys) (x ∷ ys) (y ∷ replace_key c ys x))) [
          | Less ↦ (h, k)
          | Equal ↦ (h.1, k.1)
          | Greater ↦ (all-replace c _ x ys (apart-back x y h.0) k.0, apart-replace x ys h.1 k.1)
        ]

    pub apart-placed : (xs : List A) → AreApart xs → AreApart (placed c xs)
    apart-placed [] h = tt
    apart-placed (x ∷ xs) h = apart-replace x (placed c xs) (all-placed c _ xs h.0) (apart-placed xs h.1)

  filter-inserted : (z : A) (acc xs : List A) → AllByRecursion (λ x. ApartFrom x acc) xs → AreApart xs → filter (ties less z) (inserted cmp acc xs) ≡ filter (ties less z) (acc ++ xs)
  filter-inserted z acc [] h k = ap (filter (ties less z)) (sym (append-nil acc))
  filter-inserted z acc (x ∷ xs) h k =
      let p = ties less z in
      let later : AllByRecursion (λ w. ApartFrom w (insert_key cmp acc x)) xs =
      all-with (λ w from here. all-insert cmp _ x acc (apart-back x w here) from) xs h.1 k.0
      in
      filter-inserted z (insert_key cmp acc x) xs later k.1
      ∙ filter-append p (insert_key cmp acc x) xs
      ∙ ap (λ (l : List A). l ++ filter p xs) (filter-insert cmp (λ x y e. e) z x acc h.0 ∙ to_end z x acc h.0)
      ∙ sym (filter-append p (acc ++ x ∷ []) xs)
      ∙ ap (filter p) (append_assoc acc (x ∷ []) xs)

  pub filter-in_order : (z : A) (xs : List A) → AreApart xs → filter (ties less z) (in_order cmp xs) ≡ filter (ties less z) xs
  filter-in_order z xs h = filter-inserted z [] xs (apart-nothing xs) h
    where
      apart-nothing : (xs : List A) → AllByRecursion (λ x. ApartFrom x []) xs
      apart-nothing [] = tt
      apart-nothing (x ∷ xs) = (tt, apart-nothing xs)

  -- ---- each once, rising

  abbrev pub IsStrict : List A → Type 0
  IsStrict [] = ⊤
  IsStrict (x ∷ xs) = AllByRecursion (λ y. cmp x y ≡ Less) xs × IsStrict xs

  strict-insert : (x : A) (ys : List A) → IsStrict ys → IsStrict (insert_key cmp ys x)
  strict-insert x [] h = (tt, tt)
  strict-insert x (y ∷ ys) h =
      elim (cmp x y) as (λ o. cmp x y ≡ o → IsStrict (match_ordering o (x ∷ y ∷ ys) (y ∷ ys) (y ∷ insert_key cmp ys x))) [
        | Less ↦ λ o. ((o, all-map (λ w e. total.trans x y w o e) ys h.0), h)
        | Equal ↦ λ o. h
        | Greater ↦ λ o. (all-insert cmp _ x ys (total.antisymm y x ∙ ap ordering_reverse o) h.0, strict-insert x ys h.1)
      ] refl

  strict-inserted : (acc xs : List A) → IsStrict acc → IsStrict (inserted cmp acc xs)
  strict-inserted acc [] h = h
  strict-inserted acc (x ∷ xs) h = strict-inserted (insert_key cmp acc x) xs (strict-insert x acc h)

  pub strict-in_order : (xs : List A) → IsStrict (in_order cmp xs)
  strict-in_order xs = strict-inserted [] xs tt

  pub apart-strict : (xs : List A) → IsStrict xs → AreApart xs
  apart-strict [] h = tt
  apart-strict (x ∷ xs) h = (all-map (λ y e. ap is_eq e) xs h.0, apart-strict xs h.1)

  -- placed by this order itself
  pub strict-placed : (xs : List A) → AreApart xs → IsStrict (placed cmp xs)
  strict-placed [] h = tt
  strict-placed (x ∷ xs) h =
      subst IsStrict (sym (same-place cmp (λ x y e. e) x (placed cmp xs) (all-placed cmp _ xs h.0))) (strict-insert x (placed cmp xs) (strict-placed xs h.1))

  none-less : (x : A) (xs : List A) → AllByRecursion (λ y. cmp x y ≡ Less) xs → list_all (λ y. not (less y x)) xs ≡ true
  none-less x [] h = refl
  none-less x (y ∷ ys) h =
      let up : less y x ≡ false = ap is_lt (total.antisymm y x ∙ ap ordering_reverse h.0) in
      ap (λ t. not t && list_all (λ w. not (less w x)) ys) up ∙ none-less x ys h.1

  pub rising-strict : (xs : List A) → IsStrict xs → sorted.Rising less ranks xs
  rising-strict [] h = tt
  rising-strict (x ∷ xs) h = (none-less x xs h.0, rising-strict xs h.1)

  -- ---- one order

  -- what a stable sort makes of elements that are apart
  pub sort-is : (xs ys : List A) → AreApart xs → IsSortedBy less ys → IsStableBy less xs ys → ys ≡ in_order cmp xs
  sort-is xs ys apart up stable =
      sorted.one_order less ranks ys (in_order cmp xs) (sorted.rising-sorted less ranks ys up) (rising-strict (in_order cmp xs) (strict-in_order xs))
      (λ z. stable z ∙ sym (filter-in_order z xs apart))

  pub sort-places : (xs ys : List A) → AreApart xs → IsSortedBy less ys → IsStableBy less xs ys → ys ≡ placed cmp xs
  sort-places xs ys apart up stable =
      sorted.one_order less ranks ys (placed cmp xs) (sorted.rising-sorted less ranks ys up) (rising-strict (placed cmp xs) (strict-placed xs apart))
      (λ z. stable z ∙ sym (filter-placed cmp (λ x y e. e) z xs apart))

  -- a list in order stays
  pub in_order-twice : (xs : List A) → in_order cmp (in_order cmp xs) ≡ in_order cmp xs
  in_order-twice xs =
      let strict = strict-in_order xs in
      sorted.one_order less ranks (in_order cmp (in_order cmp xs)) (in_order cmp xs) (rising-strict _ (strict-in_order (in_order cmp xs))) (rising-strict _ strict)
      (λ z. filter-in_order z (in_order cmp xs) (apart-strict _ strict))

  pub apart-in_order : (xs : List A) → in_order cmp xs ≡ xs → AreApart xs
  apart-in_order xs e = apart-strict xs (subst IsStrict e (strict-in_order xs))

  -- a list in order, placed by another comparison and put in order again
  pub in_order-placed : (c : A → A → Ordering) → ((x y : A) → c x y ≡ Equal → cmp x y ≡ Equal) → (xs : List A) → in_order cmp xs ≡ xs → in_order cmp (placed c xs) ≡ xs
  in_order-placed c exact xs e =
      let apart = apart-in_order xs e in
      sorted.one_order less ranks (in_order cmp (placed c xs)) xs (rising-strict _ (strict-in_order (placed c xs))) (rising-strict xs (subst IsStrict e (strict-in_order xs)))
      (λ z. filter-in_order z (placed c xs) (apart-placed c exact xs apart) ∙ filter-placed c exact z xs apart)

  -- a list that rises is in order
  pub in_order-strict : (xs : List A) → IsStrict xs → in_order cmp xs ≡ xs
  in_order-strict xs strict =
      sorted.one_order less ranks (in_order cmp xs) xs (rising-strict _ (strict-in_order xs)) (rising-strict xs strict) (λ z. filter-in_order z xs (apart-strict xs strict))

-- what holds of each holds of each in order
module _ {A : Type 0} (c : A → A → Ordering) (q : A → Bool) where
  both : (a b : Bool) → a ≡ true → b ≡ true → (a && b) ≡ true
  both a b e f = ap (λ t. t && b) e ∙ f

  insert-all : (x : A) (ys : List A) → q x ≡ true → list_all q ys ≡ true → list_all q (insert_key c ys x) ≡ true
  insert-all x [] e h = both (q x) true e refl
  insert-all x (y ∷ ys) e h =
      let parts = sorted.both_true (q y) (list_all q ys) h in
      elim (c x y) as (λ o. list_all q (match_ordering o (x ∷ y ∷ ys) (y ∷ ys) (y ∷ insert_key c ys x)) ≡ true) [
        | Less ↦ both (q x) (list_all q (y ∷ ys)) e h
        | Equal ↦ h
        | Greater ↦ both (q y) (list_all q (insert_key c ys x)) parts.0 (insert-all x ys e parts.1)
      ]

  inserted-all : (acc xs : List A) → list_all q acc ≡ true → list_all q xs ≡ true → list_all q (inserted c acc xs) ≡ true
  inserted-all acc [] h k = h
  inserted-all acc (x ∷ xs) h k =
      let parts = sorted.both_true (q x) (list_all q xs) k in
      inserted-all (insert_key c acc x) xs (insert-all x acc parts.0 h) parts.1

  pub in_order-all : (xs : List A) → list_all q xs ≡ true → list_all q (in_order c xs) ≡ true
  in_order-all xs h = inserted-all [] xs refl h

  replace-all : (x : A) (ys : List A) → q x ≡ true → list_all q ys ≡ true → list_all q (replace_key c ys x) ≡ true
  replace-all x [] e h = both (q x) true e refl
  replace-all x (y ∷ ys) e h =
      let parts = sorted.both_true (q y) (list_all q ys) h in
      elim (c x y) as (λ o. list_all q (match_ordering o (x ∷ y ∷ ys) (x ∷ ys) (y ∷ replace_key c ys x)) ≡ true) [
        | Less ↦ both (q x) (list_all q (y ∷ ys)) e h
        | Equal ↦ both (q x) (list_all q ys) e parts.1
        | Greater ↦ both (q y) (list_all q (replace_key c ys x)) parts.0 (replace-all x ys e parts.1)
      ]

  pub list_all-placed : (xs : List A) → list_all q xs ≡ true → list_all q (placed c xs) ≡ true
  list_all-placed [] h = refl
  list_all-placed (x ∷ xs) h =
      let parts = sorted.both_true (q x) (list_all q xs) h in
      replace-all x (placed c xs) parts.0 (list_all-placed xs parts.1)
