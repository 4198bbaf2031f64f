-- Ranges that may be taken for others.
use Rattle.std.proofs.Common.{◌≡◌, ℕ, suc, ◌+◌, ◌-◌, ◌<◌, ◌≤◌, Bool, true, false, cond, List, [], ◌∷◌, ◌++◌, length, get_or, refl, sym, ap, ◌∙◌, subst, subst₂, arith, append_assoc, add-one, drop}
use Rattle.std.specs.Prelude.{map, filter, nat_le, ◌&&◌}
use Rattle.std.specs.List.Sorted.{IsNonDecreasingBy}
use Rattle.std.proofs.lemmas.Bool.{leb-true, le-leb, and_parts}
use Rattle.std.proofs.lemmas.List.{get_or_default, map-append}
use Rattle.std.proofs.Math.Seq.{drop-cons}
use Rattle.cov_text.specs.Listing.{last_or}
use Rattle.cov_model.specs.declared.report.Range.{Range}
use Rattle.istanbul_rules.specs.declared.painting.Stretch.{Stretch}
use Rattle.istanbul_rules.specs.Painting.{covers, count_over, LiesBetween, IsSameBetween, IsDecided}

abbrev kept : Bool → Range → List Range → List Range
kept t r rest = cond t (r ∷ rest) rest

abbrev last_count : ℕ → List Range → ℕ
last_count base ranges = last_or base (map (λ r. r.count) ranges)

-- what stands before a range that goes over the stretch doesn't matter
over : (s : Stretch) (r : Range) (rest : List Range) → covers s r ≡ true → (base : ℕ) (xs : List Range) → count_over base (xs ++ r ∷ rest) s ≡ count_over r.count rest s
over s r rest yes_ base [] = ap (λ t. last_count base (kept t r (filter (covers s) rest))) yes_
over s r rest yes_ base (x ∷ xs) =
    elim (covers s x) as (λ t. last_count base (kept t x (filter (covers s) (xs ++ r ∷ rest))) ≡ count_over r.count rest s) [
      | true ↦ over s r rest yes_ x.count xs
      | false ↦ over s r rest yes_ base xs
    ]

-- a range that doesn't go over the stretch may be left out
beside : (s : Stretch) (r : Range) (rest : List Range) → covers s r ≡ false → (base : ℕ) (xs : List Range) → count_over base (xs ++ r ∷ rest) s ≡ count_over base (xs ++ rest) s
beside s r rest no_ base [] = ap (λ t. last_count base (kept t r (filter (covers s) rest))) no_
beside s r rest no_ base (x ∷ xs) =
    elim (covers s x) as (λ t. last_count base (kept t x (filter (covers s) (xs ++ r ∷ rest))) ≡ last_count base (kept t x (filter (covers s) (xs ++ rest)))) [
      | true ↦ beside s r rest no_ x.count xs
      | false ↦ beside s r rest no_ base xs
    ]

abbrev from_to : ℕ → ℕ → Stretch
from_to start end = record { start = start; end = end }

covers-parts : (s : Stretch) (r : Range) → covers s r ≡ true → (r.start ≤ s.start) × (s.end ≤ r.end)
covers-parts s r e = let p = and_parts (nat_le r.start s.start) (nat_le s.end r.end) e in (leb-true r.start s.start p.0, leb-true s.end r.end p.1)

covers-from : (s : Stretch) (r : Range) → r.start ≤ s.start → s.end ≤ r.end → covers s r ≡ true
covers-from s r a b = let p : nat_le r.start s.start ≡ true = le-leb r.start s.start a in let q : nat_le s.end r.end ≡ true = le-leb s.end r.end b in (λ i. p i && q i)

-- a range that goes over all that lies between two stretches
pub goes_over_all : (first last s : Stretch) (r : Range) → covers (from_to first.start last.end) r ≡ true → LiesBetween first last s → covers s r ≡ true
goes_over_all first last s r e b =
    let p = covers-parts (from_to first.start last.end) r e in
    let a = b.start_first in let c = b.end_last in
    let p0 : r.start ≤ first.start = p.0 in let p1 : last.end ≤ r.end = p.1 in
    covers-from s r (omega arith) (omega arith)

-- a range that goes over nothing between them
pub goes_over_none : (first last s : Stretch) (r : Range) → covers (from_to last.start first.end) r ≡ false → LiesBetween first last s → covers s r ≡ false
goes_over_none first last s r e b =
    let by : (t : Bool) → covers s r ≡ t → covers s r ≡ false = elim [
      | true ↦ λ yes_.
          let p = covers-parts s r yes_ in
          let a = b.start_last in let c = b.end_first in
          let p0 : r.start ≤ s.start = p.0 in let p1 : s.end ≤ r.end = p.1 in
          let all : covers (from_to last.start first.end) r ≡ true = covers-from (from_to last.start first.end) r (omega arith) (omega arith) in
          cc
      | false ↦ λ no_. no_
    ] in
    by (covers s r) refl

-- the range is the new base of what lies between
pub same-over : (first last : Stretch) (count base : ℕ) (left rest ranges : List Range) (r : Range) → covers (from_to first.start last.end) r ≡ true
    → IsSameBetween first last (count, left ++ r ∷ rest) base ranges → IsSameBetween first last (r.count, rest) base ranges
same-over first last count base left rest ranges r e same s b = sym (over s r rest (goes_over_all first last s r e b) count left) ∙ same s b

-- the range may be left out
pub same-beside : (first last : Stretch) (count base : ℕ) (left rest ranges : List Range) (r : Range) → covers (from_to last.start first.end) r ≡ false
    → IsSameBetween first last (count, left ++ r ∷ rest) base ranges → IsSameBetween first last (count, left ++ rest) base ranges
same-beside first last count base left rest ranges r e same s b = sym (beside s r rest (goes_over_none first last s r e b) count left) ∙ same s b

-- a range that goes over some but not all of what lies between leaves more than one stretch
pub is_decided-more : (first last : Stretch) (r : Range) (left : List Range) → covers (from_to first.start last.end) r ≡ false → covers (from_to last.start first.end) r ≡ true → IsDecided first last left
is_decided-more first last r left no_ yes_ starts ends =
    let same : covers (from_to first.start last.end) r ≡ covers (from_to last.start first.end) r = (λ i. covers (from_to (starts i) (sym ends i)) r) in
    cc

pub map_same : {A B : Type 0} (f g : A → B) (xs : List A) → ((i : ℕ) (d : A) → i < length xs → f (get_or xs i d) ≡ g (get_or xs i d)) → map f xs ≡ map g xs
map_same f g [] same = refl
map_same f g (x ∷ xs) same =
    let head : f x ≡ g x = same 0 x (omega arith) in
    let tail = map_same f g xs (λ i d lt. same (suc i) d (omega arith)) in
    (λ i. head i ∷ tail i)

-- what holds between the first and the last holds of all
pub all_between : (first last : Stretch) (stretches : List Stretch) (d : Stretch) (left : ℕ × List Range) (base : ℕ) (ranges : List Range)
    → IsNonDecreasingBy (λ (s : Stretch). s.start) stretches → IsNonDecreasingBy (λ (s : Stretch). s.end) stretches
    → first ≡ get_or stretches 0 d → last ≡ get_or stretches (length stretches - 1) d
    → IsSameBetween first last left base ranges → map (count_over left.0 left.1) stretches ≡ map (count_over base ranges) stretches
all_between first last stretches d left base ranges starts ends at_first at_last same =
    map_same (count_over left.0 left.1) (count_over base ranges) stretches (λ i e lt.
    let s0 : (get_or stretches 0 e).start ≤ (get_or stretches i e).start = starts 0 i e (omega arith) lt in
    let s1 : (get_or stretches i e).start ≤ (get_or stretches (length stretches - 1) e).start = starts i (length stretches - 1) e (omega arith) (omega arith) in
    let e0 : (get_or stretches 0 e).end ≤ (get_or stretches i e).end = ends 0 i e (omega arith) lt in
    let e1 : (get_or stretches i e).end ≤ (get_or stretches (length stretches - 1) e).end = ends i (length stretches - 1) e (omega arith) (omega arith) in
    let f : get_or stretches 0 e ≡ first = get_or_default stretches 0 e d (omega arith) ∙ sym at_first in
    let l : get_or stretches (length stretches - 1) e ≡ last = get_or_default stretches (length stretches - 1) e d (omega arith) ∙ sym at_last in
    same (get_or stretches i e) (record {
      start_first = subst (λ (z : Stretch). z.start ≤ (get_or stretches i e).start) f s0;
      start_last = subst (λ (z : Stretch). (get_or stretches i e).start ≤ z.start) l s1;
      end_first = subst (λ (z : Stretch). z.end ≤ (get_or stretches i e).end) f e0;
      end_last = subst (λ (z : Stretch). (get_or stretches i e).end ≤ z.end) l e1;
    }))

-- ---- steps over the ranges

abbrev pub nothing : Range
nothing = record { start = 0; end = 0; count = 0 }

rest_is : (ranges : List Range) (i : ℕ) → i < length ranges → drop i ranges ≡ get_or ranges i nothing ∷ drop (i + 1) ranges
rest_is ranges i lt = drop-cons ranges i nothing lt ∙ ap (λ n. get_or ranges i nothing ∷ drop n ranges) (sym (add-one i))

pub step-over : (first last : Stretch) (count base i : ℕ) (left ranges : List Range) → i < length ranges
    → covers (from_to first.start last.end) (get_or ranges i nothing) ≡ true → IsSameBetween first last (count, left ++ drop i ranges) base ranges
    → (count' : ℕ) (left' : List Range) → count' ≡ (get_or ranges i nothing).count → left' ≡ [] → IsSameBetween first last (count', left' ++ drop (i + 1) ranges) base ranges
step-over first last count base i left ranges lt e same count' left' count_is left_is =
    let here = subst (λ rest. IsSameBetween first last (count, left ++ rest) base ranges) (rest_is ranges i lt) same in
    let next = same-over first last count base left (drop (i + 1) ranges) ranges (get_or ranges i nothing) e here in
    subst₂ (λ n xs. IsSameBetween first last (n, xs ++ drop (i + 1) ranges) base ranges) (sym count_is) (sym left_is) next

pub step-kept : (first last : Stretch) (count base i : ℕ) (left ranges : List Range) → i < length ranges
    → IsSameBetween first last (count, left ++ drop i ranges) base ranges
    → (count' : ℕ) (left' : List Range) → count' ≡ count → left' ≡ left ++ get_or ranges i nothing ∷ [] → IsSameBetween first last (count', left' ++ drop (i + 1) ranges) base ranges
step-kept first last count base i left ranges lt same count' left' count_is left_is =
    let r = get_or ranges i nothing in
    let here = subst (λ rest. IsSameBetween first last (count, left ++ rest) base ranges) (rest_is ranges i lt) same in
    let joined : (left ++ r ∷ []) ++ drop (i + 1) ranges ≡ left ++ r ∷ drop (i + 1) ranges = append_assoc left (r ∷ []) (drop (i + 1) ranges) in
    let next = subst (λ xs. IsSameBetween first last (count, xs) base ranges) (sym joined) here in
    subst₂ (λ n xs. IsSameBetween first last (n, xs ++ drop (i + 1) ranges) base ranges) (sym count_is) (sym left_is) next

pub step-beside : (first last : Stretch) (count base i : ℕ) (left ranges : List Range) → i < length ranges
    → covers (from_to last.start first.end) (get_or ranges i nothing) ≡ false → IsSameBetween first last (count, left ++ drop i ranges) base ranges
    → (count' : ℕ) (left' : List Range) → count' ≡ count → left' ≡ left → IsSameBetween first last (count', left' ++ drop (i + 1) ranges) base ranges
step-beside first last count base i left ranges lt e same count' left' count_is left_is =
    let here = subst (λ rest. IsSameBetween first last (count, left ++ rest) base ranges) (rest_is ranges i lt) same in
    let next = same-beside first last count base left (drop (i + 1) ranges) ranges (get_or ranges i nothing) e here in
    subst₂ (λ n xs. IsSameBetween first last (n, xs ++ drop (i + 1) ranges) base ranges) (sym count_is) (sym left_is) next

-- ---- the stretches of a call

-- the block's counts, over what is left for it
pub record IsBlock (first last : Stretch) (stretches : List Stretch) (left : ℕ × List Range) (base : ℕ) (ranges : List Range) : Type 0 where
  pub starts : IsNonDecreasingBy (λ (s : Stretch). s.start) stretches
  pub ends : IsNonDecreasingBy (λ (s : Stretch). s.end) stretches
  pub at_first : first ≡ get_or stretches 0 first
  pub at_last : last ≡ get_or stretches (length stretches - 1) first
  pub same : IsSameBetween first last left base ranges

block_counts : (first last : Stretch) (stretches : List Stretch) (left : ℕ × List Range) (base : ℕ) (ranges : List Range) → IsBlock first last stretches left base ranges
    → map (count_over left.0 left.1) stretches ≡ map (count_over base ranges) stretches
block_counts first last stretches left base ranges b = all_between first last stretches first left base ranges b.starts b.ends b.at_first b.at_last b.same

no_ranges : (count : ℕ) (left : List Range) (stretches : List Stretch) → length left ≡ 0 → map (λ _. count) stretches ≡ map (count_over count left) stretches
no_ranges count [] stretches none = refl
no_ranges count (r ∷ left) stretches none = absurd (omega arith)

pub painted_flat : (first last : Stretch) (stretches : List Stretch) (count : ℕ) (left : List Range) (base : ℕ) (ranges : List Range) (old new : List ℕ)
    → IsBlock first last stretches (count, left) base ranges → length left ≡ 0 → new ≡ old ++ map (λ _. count) stretches → new ≡ old ++ map (count_over base ranges) stretches
painted_flat first last stretches count left base ranges old new b none e =
    e ∙ ap (λ cs. old ++ cs) (no_ranges count left stretches none ∙ block_counts first last stretches (count, left) base ranges b)

pub painted_halves : (first last : Stretch) (stretches front back : List Stretch) (left : ℕ × List Range) (base : ℕ) (ranges : List Range) (old mid new : List ℕ)
    → IsBlock first last stretches left base ranges → stretches ≡ front ++ back
    → mid ≡ old ++ map (count_over left.0 left.1) front → new ≡ mid ++ map (count_over left.0 left.1) back → new ≡ old ++ map (count_over base ranges) stretches
painted_halves first last stretches front back left base ranges old mid new b split e f =
    let g = count_over left.0 left.1 in
    f ∙ ap (λ cs. cs ++ map g back) e ∙ append_assoc old (map g front) (map g back)
    ∙ ap (λ cs. old ++ cs) (sym (ap (map g) split ∙ map-append g front back) ∙ block_counts first last stretches left base ranges b)
