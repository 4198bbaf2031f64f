-- Two lists that rise, with the same elements of each rank, are one.
use Rattle.std.proofs.Common.{◌≡◌, ℕ, zero, suc, ◌<◌, ◌≤◌, Bool, true, false, cond, List, [], ◌∷◌, length, get_or, refl, sym, ap, ◌∙◌, arith}
use Rattle.std.specs.Prelude.{filter, not, ◌&&◌, ⊤}
use Rattle.std.specs.Cmp.{IsStrictWeakOrder}
use Rattle.std.specs.List.{list_all}
use Rattle.std.specs.List.Sorted.{IsSortedBy, ties}
use Rattle.std.proofs.lemmas.List.Sorted.{sorted_far}

pub both_true : (a b : Bool) → (a && b) ≡ true → (a ≡ true) × (b ≡ true)
both_true true b e = (refl, e)
both_true false b e = cc

pub not_true : (a : Bool) → not a ≡ true → a ≡ false
not_true true e = cc
not_true false e = refl

less_one : {A : Type 0} (t : Bool) (x : A) (xs ys : List A) → cond t (x ∷ xs) xs ≡ cond t (x ∷ ys) ys → xs ≡ ys
less_one true x xs ys e = cc
less_one false x xs ys e = e

module _ {A : Type 0} (lt : A → A → Bool) (order : IsStrictWeakOrder lt) where
  tied : (a b : A) → ties lt a b ≡ true → (lt a b ≡ false) × (lt b a ≡ false)
  tied a b e =
      let parts = both_true (not (lt a b)) (not (lt b a)) e in
      (not_true (lt a b) parts.0, not_true (lt b a) parts.1)

  pub ties_when : (a b : A) → lt a b ≡ false → lt b a ≡ false → ties lt a b ≡ true
  ties_when a b e f = λ i. not (e i) && not (f i)

  no_tie : (a b : A) → lt a b ≡ true → ties lt a b ≡ false
  no_tie a b e = ap (λ t. not t && not (lt b a)) e

  never_before_itself : (a : A) → lt a a ≡ false
  never_before_itself a = elim (lt a a) as (λ t. lt a a ≡ t → lt a a ≡ false) [ true ↦ λ e. order.one_way a a e | false ↦ λ e. e ] refl

  pub own_tie : (a : A) → ties lt a a ≡ true
  own_tie a = ties_when a a (never_before_itself a) (never_before_itself a)

  -- none of these is less
  abbrev pub none_less : A → List A → Bool
  none_less s others = list_all (λ other. not (lt other s)) others

  abbrev pub Rising : List A → Type 0
  Rising [] = ⊤
  Rising (s ∷ xs) = (none_less s xs ≡ true) × Rising xs

  -- a lesser one ties with none of a list that rises
  none_tie : (y x : A) (xs : List A) → lt y x ≡ true → none_less x xs ≡ true → filter (ties lt y) xs ≡ []
  none_tie y x [] less all = refl
  none_tie y x (z ∷ xs) less all =
      let parts = both_true (not (lt z x)) (none_less x xs) all in
      let apart : ties lt y z ≡ false =
      elim (lt y z) as (λ t. lt y z ≡ t → ties lt y z ≡ false) [
        | true ↦ λ e. no_tie y z e
        | false ↦ λ e. let other : lt y x ≡ false = order.chain y z x e (not_true (lt z x) parts.0) in cc
      ] refl
      in
      ap (λ t. cond t (z ∷ filter (ties lt y) xs) (filter (ties lt y) xs)) apart ∙ none_tie y x xs less parts.1

  abbrev pub SameTies : List A → List A → Type 0
  SameTies xs ys = (z : A) → filter (ties lt z) xs ≡ filter (ties lt z) ys

  first_tie : (x : A) (xs : List A) → filter (ties lt x) (x ∷ xs) ≡ x ∷ filter (ties lt x) xs
  first_tie x xs = ap (λ t. cond t (x ∷ filter (ties lt x) xs) (filter (ties lt x) xs)) (own_tie x)

  -- the first of one list isn't more than that of the other
  not_first : {P : Type 0} (x y : A) (xs ys : List A) → lt y x ≡ true → none_less x xs ≡ true → SameTies (x ∷ xs) (y ∷ ys) → P
  not_first x y xs ys less all same =
      let none : filter (ties lt y) (x ∷ xs) ≡ [] = none_tie y x (x ∷ xs) less ((λ i. not (never_before_itself x i) && none_less x xs) ∙ all) in
      let some : filter (ties lt y) (y ∷ ys) ≡ y ∷ filter (ties lt y) ys = first_tie y ys in
      let e = same y in
      cc

  head_of : (x y : A) (xs ys : List A) → ties lt x y ≡ true → SameTies (x ∷ xs) (y ∷ ys) → x ≡ y
  head_of x y xs ys tie same =
      let left = first_tie x xs in
      let right : filter (ties lt x) (y ∷ ys) ≡ y ∷ filter (ties lt x) ys =
      ap (λ t. cond t (y ∷ filter (ties lt x) ys) (filter (ties lt x) ys)) tie
      in
      let e = same x in
      cc

  rest_same : (x y : A) (xs ys : List A) → x ≡ y → SameTies (x ∷ xs) (y ∷ ys) → SameTies xs ys
  rest_same x y xs ys e same z =
      less_one (ties lt z x) x (filter (ties lt z) xs) (filter (ties lt z) ys)
      (same z ∙ (λ i. filter (ties lt z) (sym e i ∷ ys)))

  pub one_order : (xs ys : List A) → Rising xs → Rising ys → SameTies xs ys → xs ≡ ys
  one_order [] [] up down same = refl
  one_order [] (y ∷ ys) up down same = let e = same y in let f = first_tie y ys in cc
  one_order (x ∷ xs) [] up down same = let e = same x in let f = first_tie x xs in cc
  one_order (x ∷ xs) (y ∷ ys) up down same =
      elim (lt y x) as (λ t. lt y x ≡ t → x ∷ xs ≡ y ∷ ys) [
        | true ↦ λ less. not_first x y xs ys less up.0 same
        | false ↦ λ ge.
            elim (lt x y) as (λ t. lt x y ≡ t → x ∷ xs ≡ y ∷ ys) [
              | true ↦ λ less. not_first y x ys xs less down.0 (λ z. sym (same z))
              | false ↦ λ le.
                  let head : x ≡ y = head_of x y xs ys (ties_when x y le ge) same in
                  let rest : xs ≡ ys = one_order xs ys up.1 down.1 (rest_same x y xs ys head same) in
                  λ i. head i ∷ rest i
            ] refl
      ] refl

  -- ---- what a sort ensures

  abbrev Far : List A → Type 0
  Far xs = (i j : ℕ) (d : A) → i ≤ j → j < length xs → lt (get_or xs j d) (get_or xs i d) ≡ false

  all_later : (x : A) (xs : List A) → ((k : ℕ) → k < length xs → lt (get_or xs k x) x ≡ false) → none_less x xs ≡ true
  all_later x [] each = refl
  all_later x (z ∷ xs) each =
      (λ i. not (each zero (omega arith) i) && none_less x xs) ∙ all_later x xs (λ k l. each (suc k) (omega arith))

  rising-far : (xs : List A) → Far xs → Rising xs
  rising-far [] far = tt
  rising-far (x ∷ xs) far =
      (all_later x xs (λ k l. far zero (suc k) x (omega arith) (omega arith)), rising-far xs (λ i j d le l. far (suc i) (suc j) d (omega arith) (omega arith)))

  pub rising-sorted : (xs : List A) → IsSortedBy lt xs → Rising xs
  rising-sorted xs up = rising-far xs (sorted_far lt order xs up)
