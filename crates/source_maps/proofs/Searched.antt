-- What a search among the segments of a map finds.
use Rattle.std.proofs.Common.{◌≡◌, ℕ, zero, suc, ◌-◌, ◌<◌, ◌≤◌, Bool, true, false, cond, List, [], ◌∷◌, ◌++◌, length, get_or, take, refl, sym, ap, ◌∙◌, arith, inl, inr, ◌⊎◌, ◌↔◌, subst}
use Rattle.std.specs.Prelude.{Option, None, Some, slice_get, filter, nat_le, ◌&&◌}
use Rattle.std.specs.List.{list_all}
use Rattle.std.specs.List.Sorted.{IsPartitionPoint, IsPartitionedBy, IsSortedByKey}
use Rattle.std.proofs.lemmas.List.Sorted.{sorted_far}
use Rattle.std.proofs.lemmas.List.Elements.{filter-append}
use Rattle.std.proofs.lemmas.Option.{slice_get-get_or, get_or_from_slice_get, slice_get_within}
use Rattle.std.proofs.lemmas.Bool.{cases_lt, le-leb}
use Rattle.std.proofs.lemmas.Bool.Decides.{nat_tests}
use Rattle.cov_text.specs.Listing.{last_of}
use Rattle.source_maps.specs.declared.map.MapSegment.{MapSegment}
use Rattle.source_maps.specs.At.{spot_of, spot_cmp, is_earlier, begins_by, is_greatest, begun, segment_at}
use Rattle.source_maps.specs.Search.{stands_by}
use Rattle.source_maps.proofs.Spots.{ComesBy, not_earlier, spots_order}

-- the test of the search, as numbers
stands : (l c : ℕ) (s : MapSegment) → stands_by l c s ≡ true → (s.line < l) ⊎ ((s.line ≡ l) × (s.column ≤ c))
stands l c s e = grind (arith, nat_tests)

stands_not : (l c : ℕ) (s : MapSegment) → stands_by l c s ≡ false → begins_by l c s ≡ false
stands_not l c s e = grind (arith, nat_tests)

stand_earlier : (l c : ℕ) (s : MapSegment) → (s.line < l) ⊎ ((s.line ≡ l) × (s.column ≤ c)) → stands_by l c s ≡ true
stand_earlier l c s (inl lt) = grind (arith, nat_tests)
stand_earlier l c s (inr at) = grind (arith, nat_tests)

-- whatever is no later than what stands by a spot stands by it
stands_before : (l c : ℕ) (a b : MapSegment) → ComesBy a b → stands_by l c b ≡ true → stands_by l c a ≡ true
stands_before l c a b by e = grind (arith, nat_tests)

-- in a sorted list those that stand by a spot come first
pub parted : (l c : ℕ) (xs : List MapSegment) → IsSortedByKey spot_of spot_cmp xs → IsPartitionedBy (stands_by l c) xs
parted l c xs up i j d le lt e = stands_before l c (get_or xs i d) (get_or xs j d) (not_earlier (get_or xs j d) (get_or xs i d) (sorted_far is_earlier spots_order xs up i j d le lt)) e

-- ---- what a filter leaves

filter_none : {A : Type 0} (p : A → Bool) (xs : List A) → ((j : ℕ) (t : A) → slice_get xs j ≡ Some t → p t ≡ false) → filter p xs ≡ []
filter_none p [] none = refl
filter_none p (x ∷ xs) none = ap (λ t. cond t (x ∷ filter p xs) (filter p xs)) (none zero x refl) ∙ filter_none p xs (λ j t e. none (suc j) t e)

-- the last that passes stands at n
filter_to : {A : Type 0} (p : A → Bool) (xs : List A) (n : ℕ) (s : A) → slice_get xs n ≡ Some s → p s ≡ true
    → ((j : ℕ) (t : A) → slice_get xs j ≡ Some t → n < j → p t ≡ false) → filter p xs ≡ filter p (take n xs) ++ s ∷ []
filter_to p [] n s at here later = cc
filter_to p (x ∷ xs) zero s at here later =
    let same : x ≡ s = cc in
    ap (λ t. cond t (x ∷ filter p xs) (filter p xs)) (ap p same ∙ here) ∙ ap (λ (l : List _). x ∷ l) (filter_none p xs (λ j t e. later (suc j) t e (omega arith))) ∙ ap (λ y. y ∷ []) same
filter_to p (x ∷ xs) (suc n) s at here later =
    let rest = filter_to p xs n s at here (λ j t e lt. later (suc j) t e (omega arith)) in
    elim (p x) as (λ b. cond b (x ∷ filter p xs) (filter p xs) ≡ cond b (x ∷ filter p (take n xs)) (filter p (take n xs)) ++ s ∷ []) [
      | true ↦ ap (λ (l : List _). x ∷ l) rest
      | false ↦ rest
    ]

-- what holds of each that passes among the first n
all_passing : {A : Type 0} (p q : A → Bool) (xs : List A) (n : ℕ) → ((j : ℕ) (t : A) → slice_get xs j ≡ Some t → j < n → p t ≡ true → q t ≡ true)
    → list_all q (filter p (take n xs)) ≡ true
all_passing p q xs zero each = refl
all_passing p q [] (suc n) each = refl
all_passing p q (x ∷ xs) (suc n) each =
    let rest = all_passing p q xs n (λ j t e lt. each (suc j) t e (omega arith)) in
    let here : p x ≡ true → q x ≡ true = each zero x refl (omega arith) in
    elim (p x) as (λ b. (b ≡ true → q x ≡ true) → list_all q (cond b (x ∷ filter p (take n xs)) (filter p (take n xs))) ≡ true) [
      | true ↦ λ h. (λ i. h refl i && list_all q (filter p (take n xs))) ∙ rest
      | false ↦ λ h. rest
    ] here

list_all-behind : {A : Type 0} (q : A → Bool) (xs : List A) (s : A) → list_all q xs ≡ true → q s ≡ true → list_all q (xs ++ s ∷ []) ≡ true
list_all-behind q [] s all here = ap (λ b. b && true) here
list_all-behind q (x ∷ xs) s all here = grind (arith, list_all-behind q xs s)

last_behind : {A : Type 0} (xs : List A) (s : A) → last_of (xs ++ s ∷ []) ≡ Some s
last_behind [] s = refl
last_behind (x ∷ []) s = refl
last_behind (x ∷ y ∷ xs) s = last_behind (y ∷ xs) s

filter_behind : {A : Type 0} (p : A → Bool) (xs : List A) (s : A) → p s ≡ true → last_of (filter p (xs ++ s ∷ [])) ≡ Some s
filter_behind p xs s here =
    ap last_of (filter-append p xs (s ∷ []) ∙ ap (λ t. filter p xs ++ cond t (s ∷ []) []) here) ∙ last_behind (filter p xs) s

-- ---- the segment at a spot

-- what is answered for a spot
pub record IsFound (xs : List MapSegment) (l c : ℕ) (found : Option MapSegment) : Type 0 where
  pub segment : found ≡ segment_at xs l c
  pub none : (found ≡ None) ↔ (begun xs l c ≡ [])

nothing : (xs : List MapSegment) (l c : ℕ) → begun xs l c ≡ [] → IsFound xs l c None
unfolding segment_at
nothing xs l c e = record {
  segment = sym (ap (λ ys. last_of (filter (is_greatest ys) ys)) e);
  none = ((λ n. e), (λ n. refl));
}

not_empty : {A : Type 0} (xs : List A) (s : A) → xs ++ s ∷ [] ≡ [] → ⊥
not_empty [] s e = cc
not_empty (x ∷ xs) s e = cc

the_last : (xs : List MapSegment) (l c : ℕ) (front : List MapSegment) (s : MapSegment) → begun xs l c ≡ front ++ s ∷ [] → is_greatest (front ++ s ∷ []) s ≡ true → IsFound xs l c (Some s)
unfolding segment_at
the_last xs l c front s e top = record {
  segment = sym (ap (λ ys. last_of (filter (is_greatest ys) ys)) e ∙ filter_behind (is_greatest (front ++ s ∷ [])) front s top);
  none = ((λ n. cc), (λ n. absurd (not_empty front s (sym e ∙ n))));
}

abbrev Parted : ℕ → ℕ → List MapSegment → ℕ → Type 0
Parted l c xs i = IsPartitionPoint (λ s. stands_by l c s ≡ true) (λ s. stands_by l c s ≡ false) xs i

from_i : (l c : ℕ) (xs : List MapSegment) (i : ℕ) → Parted l c xs i → (j : ℕ) (t : MapSegment) → slice_get xs j ≡ Some t → i ≤ j → begins_by l c t ≡ false
from_i l c xs i split j t at le =
    stands_not l c t (ap (stands_by l c) (sym (get_or_from_slice_get xs j t t at)) ∙ split.1 j t le (slice_get_within xs j t at))

-- nothing stands by the spot
pub found-none : (l c : ℕ) (xs : List MapSegment) (i : ℕ) → Parted l c xs i → i ≡ 0 → IsFound xs l c None
found-none l c xs i split z = nothing xs l c (filter_none (begins_by l c) xs (λ j t at. from_i l c xs i split j t at (omega arith)))

earlier_all : (l c : ℕ) (xs : List MapSegment) → IsSortedByKey spot_of spot_cmp xs → (n : ℕ) (d s : MapSegment) → n < length xs → s ≡ get_or xs n d
    → (j : ℕ) (t : MapSegment) → slice_get xs j ≡ Some t → j ≤ n → ComesBy t s
earlier_all l c xs up n d s fits is j t at le =
    let far = not_earlier (get_or xs n d) (get_or xs j d) (sorted_far is_earlier spots_order xs up j n d le fits) in
    let e : get_or xs j d ≡ t = get_or_from_slice_get xs j t d at in
    subst (λ u. ComesBy t u) (sym is) (subst (λ u. ComesBy u (get_or xs n d)) e far)

not_begun : (l c : ℕ) (t s : MapSegment) → ComesBy t s → s.line < l → begins_by l c t ≡ false
not_begun l c t s by lt = grind (arith, nat_tests)

-- the last that does is on an earlier line
pub found-earlier : (l c : ℕ) (xs : List MapSegment) (i : ℕ) (d s : MapSegment) → IsSortedByKey spot_of spot_cmp xs → Parted l c xs i → i ≤ length xs → (i ≡ 0 → ⊥)
    → s ≡ get_or xs (i - 1) d → (s.line ≡ l → ⊥) → IsFound xs l c None
found-earlier l c xs i d s up split fits some is other =
    let stood : stands_by l c s ≡ true = ap (stands_by l c) is ∙ split.0 (i - 1) d (omega arith) (omega arith) in
    let lt : s.line < l = elim (stands l c s stood) [ inl lt ↦ lt | inr at ↦ absurd (other at.0) ] in
    nothing xs l c (filter_none (begins_by l c) xs (λ j t at. elim (cases_lt j i) [
      | inl before ↦ not_begun l c t s (earlier_all l c xs up (i - 1) d s (omega arith) is j t at (omega arith)) lt
      | inr past ↦ from_i l c xs i split j t at past
    ]))

begun_here : (l c : ℕ) (s : MapSegment) → stands_by l c s ≡ true → s.line ≡ l → begins_by l c s ≡ true
begun_here l c s e at = grind (arith, nat_tests)

no_greater : (l c : ℕ) (t s : MapSegment) → ComesBy t s → s.line ≡ l → begins_by l c t ≡ true → nat_le t.column s.column ≡ true
no_greater l c t s by at e = grind (arith, nat_tests)

-- it is on the line
pub found-here : (l c : ℕ) (xs : List MapSegment) (i : ℕ) (d s : MapSegment) → IsSortedByKey spot_of spot_cmp xs → Parted l c xs i → i ≤ length xs → (i ≡ 0 → ⊥)
    → s ≡ get_or xs (i - 1) d → s.line ≡ l → IsFound xs l c (Some s)
found-here l c xs i d s up split fits some is on =
    let n = i - 1 in
    let stood : stands_by l c s ≡ true = ap (stands_by l c) is ∙ split.0 n d (omega arith) (omega arith) in
    let there : slice_get xs n ≡ Some s = slice_get-get_or xs n d (omega arith) ∙ ap (λ x. Some x) (sym is) in
    let front = filter (begins_by l c) (take n xs) in
    let q = λ (t : MapSegment). nat_le t.column s.column in
    let greatest : list_all q front ≡ true = all_passing (begins_by l c) q xs n (λ j t at lt e. no_greater l c t s (earlier_all l c xs up n d s (omega arith) is j t at (omega arith)) on e) in
    the_last xs l c front s
    (filter_to (begins_by l c) xs n s there (begun_here l c s stood on) (λ j t at lt. from_i l c xs i split j t at (omega arith)))
    (list_all-behind q front s greatest (le-leb s.column s.column (omega arith)))

-- the same of the list that a map lends
pub of_map : (xs ys : List MapSegment) (l c : ℕ) (found : Option MapSegment) → xs ≡ ys → IsFound xs l c found → IsFound ys l c found
of_map xs ys l c found e = subst (λ zs. IsFound zs l c found) e

-- and so is its order
pub sorted_of : (xs ys : List MapSegment) → xs ≡ ys → IsSortedByKey spot_of spot_cmp ys → IsSortedByKey spot_of spot_cmp xs
sorted_of xs ys e = subst (IsSortedByKey spot_of spot_cmp) (sym e)
