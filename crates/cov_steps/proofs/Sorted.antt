-- A stable sort into V8's order leaves the innermost count of well nested ranges.
use Rattle.std.proofs.Common.{◌≡◌, ℕ, ◌-◌, Bool, true, false, List, [], ◌∷◌, refl, sym, ap, ◌∙◌, arith}
use Rattle.std.specs.Prelude.{cond, nat_le, nat_lt, ◌&&◌, ◌||◌, not, filter, Option, None, Some, option_map}
use Rattle.std.specs.List.{list_all}
use Rattle.std.specs.List.Sorted.{IsPermutation, IsStableBy, ties}
use Rattle.std.proofs.lemmas.Bool.{and_parts, and_from}
use Rattle.std.proofs.lemmas.Bool.Decides.{nat_tests}
use Rattle.cov_text.specs.Listing.{last_of}
use Rattle.cov_text.proofs.Bools.{all-both, all-filtered, kept-pass}
use Rattle.cov_model.specs.declared.report.Range.{Range}
use Rattle.cov_model.specs.Nesting.{size, has_offset, each_pair, is_shortest, innermost, inner}
use Rattle.cov_model.specs.Normal.{each_next}
use Rattle.cov_ranges.specs.Front.{apart}
use Rattle.cov_ranges.specs.Order.{comes_first, precedes}
use Rattle.cov_ranges.proofs.Nested.{apart-swap}
use Rattle.cov_ranges.proofs.Pairs.{all-permuted, all-from-pairs, pairs-permuted}
use Rattle.cov_ranges.proofs.Sorted.{apart-itself, pairs-from-next}
use Rattle.cov_steps.specs.Walking.{last_count}
use Rattle.cov_steps.proofs.Ordered.{sizes-fall, all-last, last-shortest, last-kept}

-- ---- tests of a permutation

-- a test of those that pass another
test-filtered : {A : Type 0} (q p : A → Bool) (xs : List A) → list_all p (filter q xs) ≡ list_all (λ x. not (q x) || p x) xs
test-filtered q p [] = refl
test-filtered q p (x ∷ xs) =
    elim (q x) as (λ b. list_all p (cond b (x ∷ filter q xs) (filter q xs)) ≡ ((not b || p x) && list_all (λ y. not (q y) || p y) xs)) [
      | true ↦ ap (λ b. p x && b) (test-filtered q p xs)
      | false ↦ test-filtered q p xs
    ]

pub test-filtered-permuted : {A : Type 0} (q p : A → Bool) (xs ys : List A) → IsPermutation xs ys → list_all p (filter q xs) ≡ list_all p (filter q ys)
test-filtered-permuted q p xs ys perm = test-filtered q p xs ∙ all-permuted (λ x. not (q x) || p x) xs ys perm ∙ sym (test-filtered q p ys)

-- tests that agree at each element keep the same
filter-agree : {A : Type 0} (p q : A → Bool) (xs : List A) (h : A → Bool) → list_all h xs ≡ true → ((x : A) → h x ≡ true → p x ≡ q x) → filter p xs ≡ filter q xs
filter-agree p q [] h all same = refl
filter-agree p q (x ∷ xs) h all same =
    let both = and_parts (h x) (list_all h xs) all in
    ap (λ b. cond b (x ∷ filter p xs) (filter p xs)) (same x both.0) ∙ ap (λ rest. cond (q x) (x ∷ rest) rest) (filter-agree p q xs h both.1 same)

-- what passes the narrower of two tests passes the wider
filter-narrow : {A : Type 0} (p q : A → Bool) → ((x : A) → p x ≡ true → q x ≡ true) → (xs : List A) → filter p (filter q xs) ≡ filter p xs
filter-narrow p q h [] = refl
filter-narrow p q h (x ∷ xs) = by (p x) (q x) refl refl (filter-narrow p q h xs)
  where
    by : (a b : Bool) → p x ≡ a → q x ≡ b → filter p (filter q xs) ≡ filter p xs → filter p (cond (q x) (x ∷ filter q xs) (filter q xs)) ≡ cond (p x) (x ∷ filter p xs) (filter p xs)
    by true true ea eb more =
        ap (λ b. filter p (cond b (x ∷ filter q xs) (filter q xs))) eb ∙ ap (λ a. cond a (x ∷ filter p (filter q xs)) (filter p (filter q xs))) ea
        ∙ ap (λ rest. x ∷ rest) more ∙ sym (ap (λ a. cond a (x ∷ filter p xs) (filter p xs)) ea)
    by true false ea eb more = absurd (let e : true ≡ false = sym (h x ea) ∙ eb in cc)
    by false true ea eb more =
        ap (λ b. filter p (cond b (x ∷ filter q xs) (filter q xs))) eb ∙ ap (λ a. cond a (x ∷ filter p (filter q xs)) (filter p (filter q xs))) ea
        ∙ more ∙ sym (ap (λ a. cond a (x ∷ filter p xs) (filter p xs)) ea)
    by false false ea eb more =
        ap (λ b. filter p (cond b (x ∷ filter q xs) (filter q xs))) eb ∙ more ∙ sym (ap (λ a. cond a (x ∷ filter p xs) (filter p xs)) ea)

-- ---- the last of the sorted ones is the innermost

ties-itself : (y : Range) → ties comes_first y y ≡ true
ties-itself y = grind (arith, nat_tests)

ties-place : (y z : Range) → ties comes_first y z ≡ true → (y.start ≡ z.start) × (y.end ≡ z.end)
ties-place y z e = (grind (arith, nat_tests), grind (arith, nat_tests))

ties-from-place : (y z : Range) → y.start ≡ z.start → y.end ≡ z.end → ties comes_first y z ≡ true
ties-from-place y z s e = grind (arith, nat_tests)

ties-has : (o : ℕ) (y z : Range) → has_offset o y ≡ true → ties comes_first y z ≡ true → has_offset o z ≡ true
ties-has o y z has tie = let place = ties-place y z tie in (λ i. nat_le (sym place.0 i) o && nat_lt o (sym place.1 i)) ∙ has

one-place : (o : ℕ) (y z : Range) → has_offset o y ≡ true → has_offset o z ≡ true → apart y z ≡ true → nat_le (size y) (size z) ≡ true → nat_le (size z) (size y) ≡ true
    → (y.start ≡ z.start) × (y.end ≡ z.end)
one-place o y z hy hz free le ge = (grind (arith, nat_tests), grind (arith, nat_tests))

shortest-ties : (o : ℕ) (a b : List Range) (y z : Range) → ((p : Range → Bool) → list_all p a ≡ list_all p b) → last_of b ≡ Some y → has_offset o y ≡ true → is_shortest a y ≡ true
    → has_offset o z ≡ true → apart y z ≡ true → nat_le (size y) (size z) ≡ true → is_shortest a z ≡ ties comes_first y z
shortest-ties o a b y z same last hy short hz free le = by (ties comes_first y z) (is_shortest a z) refl refl
  where
    by : (t s : Bool) → ties comes_first y z ≡ t → is_shortest a z ≡ s → is_shortest a z ≡ ties comes_first y z
    by true s et es =
        let place = ties-place y z et in
        ((λ i. list_all (λ other. nat_le (sym place.1 i - sym place.0 i) (size other)) a) ∙ short) ∙ sym et
    by false false et es = es ∙ sym et
    by false true et es =
        let ge : nat_le (size z) (size y) ≡ true = all-last (λ other. nat_le (size z) (size other)) b y (sym (same (λ other. nat_le (size z) (size other))) ∙ es) last in
        let place = one-place o y z hy hz free le ge in
        absurd (let e : false ≡ true = sym et ∙ ties-from-place y z place.0 place.1 in cc)

no-last : {A : Type 0} (xs : List A) → last_of xs ≡ None → xs ≡ []
no-last [] e = refl
no-last (x ∷ []) e = absurd cc
no-last (x ∷ y ∷ xs) e = absurd (let again = no-last (y ∷ xs) e in cc)

none-left : {A : Type 0} (xs : List A) → list_all (λ x. false) xs ≡ true → xs ≡ []
none-left [] e = refl
none-left (x ∷ xs) e = absurd cc

all-three : {A : Type 0} (p q r : A → Bool) (xs : List A) → list_all p xs ≡ true → list_all q xs ≡ true → list_all r xs ≡ true → list_all (λ x. p x && (q x && r x)) xs ≡ true
all-three p q r xs e f g = all-both p (λ x. q x && r x) xs ∙ and_from _ _ e (all-both q r xs ∙ and_from _ _ f g)

innermost-at : (o : ℕ) (xs ys : List Range) (last : Option Range) → IsPermutation xs ys → IsStableBy comes_first xs ys → each_pair apart xs ≡ true → each_next precedes ys ≡ true
    → last_of (filter (has_offset o) ys) ≡ last → innermost xs o ≡ last
innermost-at o xs ys None perm stable pairs order last =
    let none : filter (has_offset o) ys ≡ [] = no-last (filter (has_offset o) ys) last in
    let also : filter (has_offset o) xs ≡ [] = none-left (filter (has_offset o) xs) (test-filtered-permuted (has_offset o) (λ x. false) xs ys perm ∙ ap (list_all (λ x. false)) none) in
    ap (λ a. last_of (filter (is_shortest a) a)) also
innermost-at o xs ys (Some y) perm stable pairs order last =
    let a = filter (has_offset o) xs in
    let b = filter (has_offset o) ys in
    let t = ties comes_first y in
    let same : (p : Range → Bool) → list_all p a ≡ list_all p b = λ p. test-filtered-permuted (has_offset o) p xs ys perm in
    let hy : has_offset o y ≡ true = all-last (has_offset o) b y (kept-pass (has_offset o) ys) last in
    let paired : each_pair apart ys ≡ true = sym (pairs-permuted apart apart-swap apart-itself xs ys perm) ∙ pairs in
    let all = all-from-pairs apart apart-swap apart-itself ys paired in
    let falls = sizes-fall o ys paired (pairs-from-next ys order) in
    let short : is_shortest a y ≡ true = same (λ other. nat_le (size y) (size other)) ∙ last-shortest b y falls last in
    let free : list_all (apart y) ys ≡ true = all-last (λ x. list_all (apart x) ys) b y (all-filtered (has_offset o) (λ x. list_all (apart x) ys) ys all) last in
    let free-a : list_all (apart y) a ≡ true = same (apart y) ∙ all-filtered (has_offset o) (apart y) ys free in
    let facts = all-three (has_offset o) (apart y) (λ z. nat_le (size y) (size z)) a (kept-pass (has_offset o) xs) free-a short in
    let agree : filter (is_shortest a) a ≡ filter t a =
    filter-agree (is_shortest a) t a (λ z. has_offset o z && (apart y z && nat_le (size y) (size z))) facts
    (λ z e.
    let one = and_parts (has_offset o z) (apart y z && nat_le (size y) (size z)) e in
    let two = and_parts (apart y z) (nat_le (size y) (size z)) one.1 in
    shortest-ties o a b y z same last hy short one.0 two.0 two.1) in
    ap last_of (agree ∙ filter-narrow t (has_offset o) (λ z e. ties-has o y z hy e) xs ∙ sym (stable y) ∙ sym (filter-narrow t (has_offset o) (λ z e. ties-has o y z hy e) ys))
    ∙ last-kept t b y last (ties-itself y)

-- At each offset the last of the sorted ranges that has it tells the innermost count.
pub inner-sorted : (o : ℕ) (xs ys : List Range) → IsPermutation xs ys → IsStableBy comes_first xs ys → each_pair apart xs ≡ true → each_next precedes ys ≡ true
    → inner xs o ≡ last_count (filter (has_offset o) ys)
unfolding inner
inner-sorted o xs ys perm stable pairs order = ap (option_map (λ r. r.count)) (innermost-at o xs ys (last_of (filter (has_offset o) ys)) perm stable pairs order refl)
