-- Tests of each two elements of a list: of one with one more, of what a filter keeps, and of the same elements in another order.
use Rattle.std.proofs.Common.{◌≡◌, Bool, true, false, List, [], ◌∷◌, ◌++◌, refl, sym, ap, ◌∙◌}
use Rattle.std.specs.Prelude.{◌&&◌, ◌||◌, not, cond, filter}
use Rattle.std.specs.List.{list_all, list_any}
use Rattle.std.specs.List.Sorted.{IsPermutation}
use Rattle.std.proofs.lemmas.List.Folds.{list_all-append}
use Rattle.std.proofs.lemmas.List.Sorted.{list_any-IsPermutation, IsPermutation-sym}
use Rattle.std.proofs.lemmas.Bool.{and_parts, and_from}
use Rattle.cov_text.proofs.Bools.{same-tests, all-more, all-filtered}
use Rattle.cov_model.specs.Nesting.{each_pair}

-- each of some against each of others
abbrev pub against : {A : Type 0} → (A → A → Bool) → List A → List A → Bool
against test xs ys = list_all (λ x. list_all (test x) ys) xs

-- ---- one more

regroup-push : (a b c d : Bool) → ((a && (b && true)) && (c && d)) ≡ ((a && c) && (b && d))
regroup-push false b c d = refl
regroup-push true false false d = refl
regroup-push true false true d = refl
regroup-push true true c d = refl

pub pairs-push : {A : Type 0} (test : A → A → Bool) (xs : List A) (y : A) → each_pair test (xs ++ y ∷ []) ≡ (each_pair test xs && list_all (λ x. test x y) xs)
pairs-push test [] y = refl
pairs-push test (x ∷ xs) y =
    (λ i. list_all-append (test x) xs (y ∷ []) i && pairs-push test xs y i)
    ∙ regroup-push (list_all (test x) xs) (test x y) (each_pair test xs) (list_all (λ z. test z y) xs)

-- ---- a filter

pub pairs-filtered : {A : Type 0} (p : A → Bool) (test : A → A → Bool) (xs : List A) → each_pair test xs ≡ true → each_pair test (filter p xs) ≡ true
pairs-filtered p test [] e = refl
pairs-filtered p test (x ∷ xs) e =
    let both = and_parts (list_all (test x) xs) (each_pair test xs) e in
    by (p x) (all-filtered p (test x) xs both.0) (pairs-filtered p test xs both.1)
  where
    by : (b : Bool) → list_all (test x) (filter p xs) ≡ true → each_pair test (filter p xs) ≡ true → each_pair test (cond b (x ∷ filter p xs) (filter p xs)) ≡ true
    by true here more = and_from (list_all (test x) (filter p xs)) (each_pair test (filter p xs)) here more
    by false here more = more

-- ---- another order

not-any : {A : Type 0} (p : A → Bool) (xs : List A) → list_all p xs ≡ not (list_any (λ x. not (p x)) xs)
not-any p [] = refl
not-any p (x ∷ xs) = elim (p x) as (λ b. (b && list_all p xs) ≡ not (not b || list_any (λ y. not (p y)) xs)) [ true ↦ not-any p xs | false ↦ refl ]

pub all-permuted : {A : Type 0} (p : A → Bool) (xs ys : List A) → IsPermutation xs ys → list_all p xs ≡ list_all p ys
all-permuted p xs ys perm = not-any p xs ∙ ap not (list_any-IsPermutation (λ x. not (p x)) xs ys perm) ∙ sym (not-any p ys)

against-more : {A : Type 0} (test : A → A → Bool) → ((a b : A) → test a b ≡ test b a) → (x : A) (xs ys : List A) → list_all (test x) xs ≡ true → against test xs ys ≡ true → against test xs (x ∷ ys) ≡ true
against-more test swap x [] ys a e = refl
against-more test swap x (y ∷ xs) ys a e =
    let pa = and_parts (test x y) (list_all (test x) xs) a in
    let pe = and_parts (list_all (test y) ys) (against test xs ys) e in
    and_from (test y x && list_all (test y) ys) (against test xs (x ∷ ys)) (and_from (test y x) (list_all (test y) ys) (swap y x ∙ pa.0) pe.0) (against-more test swap x xs ys pa.1 pe.1)

pub all-from-pairs : {A : Type 0} (test : A → A → Bool) → ((a b : A) → test a b ≡ test b a) → ((a : A) → test a a ≡ true) → (xs : List A) → each_pair test xs ≡ true → against test xs xs ≡ true
all-from-pairs test swap itself [] e = refl
all-from-pairs test swap itself (x ∷ xs) e =
    let both = and_parts (list_all (test x) xs) (each_pair test xs) e in
    and_from (test x x && list_all (test x) xs) (against test xs (x ∷ xs)) (and_from (test x x) (list_all (test x) xs) (itself x) both.0)
    (against-more test swap x xs xs both.0 (all-from-pairs test swap itself xs both.1))

pairs-from-all : {A : Type 0} (test : A → A → Bool) (xs ys : List A) → against test xs ys ≡ true → ((p : A → Bool) → list_all p ys ≡ true → list_all p xs ≡ true) → each_pair test xs ≡ true
pairs-from-all test [] ys e sub = refl
pairs-from-all {A = A} test (x ∷ xs) ys e sub =
    let both = and_parts (list_all (test x) ys) (against test xs ys) e in
    let tail : (p : A → Bool) → list_all p ys ≡ true → list_all p xs ≡ true = λ p all. (and_parts (p x) (list_all p xs) (sub p all)).1 in
    and_from (list_all (test x) xs) (each_pair test xs) (tail (test x) both.0) (pairs-from-all test xs ys both.1 tail)

pairs-moved : {A : Type 0} (test : A → A → Bool) → ((a b : A) → test a b ≡ test b a) → ((a : A) → test a a ≡ true) → (xs ys : List A) → IsPermutation xs ys → each_pair test xs ≡ true → each_pair test ys ≡ true
pairs-moved test swap itself xs ys perm e =
    let inner = all-more (λ x. list_all (test x) xs) (λ x. list_all (test x) ys) (λ x f. sym (all-permuted (test x) xs ys perm) ∙ f) ys
    (sym (all-permuted (λ x. list_all (test x) xs) xs ys perm) ∙ all-from-pairs test swap itself xs e) in
    pairs-from-all test ys ys inner (λ p all. all)

-- a test that takes its two elements in either order, and that an element passes against itself, doesn't see the order of a list
pub pairs-permuted : {A : Type 0} (test : A → A → Bool) → ((a b : A) → test a b ≡ test b a) → ((a : A) → test a a ≡ true) → (xs ys : List A) → IsPermutation xs ys → each_pair test xs ≡ each_pair test ys
pairs-permuted test swap itself xs ys perm =
    same-tests (each_pair test xs) (each_pair test ys) (pairs-moved test swap itself xs ys perm) (pairs-moved test swap itself ys xs (IsPermutation-sym xs ys perm))
