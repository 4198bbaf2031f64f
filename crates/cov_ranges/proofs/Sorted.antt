-- Lists whose neighbours stand in V8's order.
use Rattle.std.proofs.Common.{◌≡◌, suc, ◌+◌, Bool, true, false, List, [], ◌∷◌, refl, sym, ap, ◌∙◌, subst, arith, get_or}
use Rattle.std.specs.Prelude.{not, ◌↔◌, IsTrue}
use Rattle.std.specs.List.{list_all, IsAllAdjacentAnswer}
use Rattle.std.specs.Cmp.{IsStrictWeakOrder}
use Rattle.std.specs.List.Sorted.{IsPermutation, IsSortedBy}
use Rattle.std.proofs.lemmas.Bool.Decides.{nat_tests}
use Rattle.std.proofs.lemmas.Bool.{and_parts, and_from, not-true}
use Rattle.cov_text.proofs.Bools.{all-more}
use Rattle.cov_model.specs.declared.report.Range.{Range}
use Rattle.cov_model.specs.Nesting.{each_pair}
use Rattle.cov_model.specs.Normal.{range, each_next}
use Rattle.cov_ranges.specs.Order.{comes_first, precedes}
use Rattle.cov_ranges.specs.Front.{apart, are_apart}
use Rattle.cov_ranges.proofs.Nested.{apart-swap}
use Rattle.cov_ranges.proofs.Pairs.{pairs-permuted}

pub comes_first-ranks : IsStrictWeakOrder comes_first
comes_first-ranks = record { one_way = λ x y e. one_way x y e; chain = λ x y z e f. chain x y z e f }
  where
    one_way : (x y : Range) → comes_first x y ≡ true → comes_first y x ≡ false
    one_way x y e = grind (arith, nat_tests)

    chain : (x y z : Range) → comes_first x y ≡ false → comes_first y z ≡ false → comes_first x z ≡ false
    chain x y z e f = grind (arith, nat_tests)

-- ---- from neighbours to pairs

comes-precedes : (a b : Range) → comes_first b a ≡ false → precedes a b ≡ true
comes-precedes a b e = grind (arith, nat_tests)

precedes-on : (a b c : Range) → precedes a b ≡ true → precedes b c ≡ true → precedes a c ≡ true
precedes-on a b c e f = grind (arith, nat_tests)

ahead : (x : Range) (xs : List Range) → each_next precedes (x ∷ xs) ≡ true → list_all (precedes x) xs ≡ true
ahead x [] e = refl
ahead x (y ∷ xs) e =
    let both = and_parts (precedes x y) (each_next precedes (y ∷ xs)) e in
    and_from (precedes x y) (list_all (precedes x) xs) both.0 (all-more (precedes y) (precedes x) (λ z f. precedes-on x y z both.0 f) xs (ahead y xs both.1))

pub pairs-from-next : (xs : List Range) → each_next precedes xs ≡ true → each_pair precedes xs ≡ true
pairs-from-next [] e = refl
pairs-from-next (x ∷ []) e = refl
pairs-from-next (x ∷ y ∷ xs) e =
    let both = and_parts (precedes x y) (each_next precedes (y ∷ xs)) e in
    and_from (list_all (precedes x) (y ∷ xs)) (each_pair precedes (y ∷ xs)) (ahead x (y ∷ xs) e) (pairs-from-next (y ∷ xs) both.1)

pub order-from-sorted : (xs : List Range) → IsSortedBy comes_first xs → each_next precedes xs ≡ true
order-from-sorted [] sorted = refl
order-from-sorted (x ∷ []) sorted = refl
order-from-sorted (x ∷ y ∷ xs) sorted =
    and_from (precedes x y) (each_next precedes (y ∷ xs)) (comes-precedes x y (sorted 0 x (omega arith) (omega arith)))
    (order-from-sorted (y ∷ xs) (λ k d low high.
    let next : suc k + 1 ≡ suc (k + 1) = omega arith in
    subst (λ j. comes_first (get_or (x ∷ y ∷ xs) j d) (get_or (y ∷ xs) k d) ≡ false) next (sorted (suc k) d (omega arith) (omega arith))))

-- what a sort says
pub pairs-from-sorted : (xs : List Range) → IsSortedBy comes_first xs → each_pair precedes xs ≡ true
pairs-from-sorted xs sorted = pairs-from-next xs (order-from-sorted xs sorted)

-- what a look at each two neighbours answers
pub sorted-answer : (xs : List Range) (answer : Bool) → IsAllAdjacentAnswer (λ a b r. r ≡ not (comes_first b a)) xs answer → IsTrue answer ↔ IsSortedBy comes_first xs
sorted-answer xs true each = ((λ e k d low high. not-true (comes_first (get_or xs (k + 1) d) (get_or xs k d)) (sym (each k d high))), (λ sorted. refl))
sorted-answer xs false some =
    let none = range 0 0 0 in
    ((λ e. absurd cc), (λ sorted. absurd (let e : false ≡ true = some.2 none ∙ ap not (sorted some.0 none (omega arith) some.1) in cc)))

-- ---- a sort doesn't make ranges cross

pub apart-itself : (a : Range) → apart a a ≡ true
apart-itself a = grind (arith, nat_tests)

pub apart-permuted : (xs ys : List Range) → IsPermutation xs ys → are_apart xs ≡ are_apart ys
apart-permuted xs ys perm = pairs-permuted apart apart-swap apart-itself xs ys perm
