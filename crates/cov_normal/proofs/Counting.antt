-- What a nested normal list counts, and that it nests.
use Rattle.std.proofs.Common.{◌≡◌, ℕ, suc, ◌<◌, ◌≤◌, Bool, true, false, List, [], ◌∷◌, ◌++◌, refl, sym, ap, ◌∙◌, subst, arith, inl, inr, length}
use Rattle.std.specs.Prelude.{◌↔◌, cond, ◌&&◌, not, nat_le, nat_lt, filter, None, Some, unwrap_or}
use Rattle.std.specs.List.{list_all}
use Rattle.std.proofs.lemmas.Bool.{cases_lt, and_parts, and_from}
use Rattle.std.proofs.lemmas.Bool.Decides.{nat_tests}
use Rattle.std.proofs.lemmas.List.Folds.{list_all-append}
use Rattle.std.proofs.lemmas.List.Sorted.{IsPermutation-refl}
use Rattle.cov_model.specs.declared.report.Range.{Range}
use Rattle.cov_model.specs.Nesting.{has_offset, crosses, each_pair, is_within, is_well_nested, inner, inner_count, range_fault}
use Rattle.cov_model.specs.Normal.{range, each_next, maximal_runs}
use Rattle.cov_model.specs.Nested.{nest, nested}
use Rattle.cov_ranges.proofs.Nested.{faultless_where_nested}
use Rattle.cov_text.proofs.Bools.{all-more}
use Rattle.cov_ranges.specs.Order.{precedes}
use Rattle.cov_steps.specs.Walking.{last_count}
use Rattle.cov_steps.proofs.Maximal.{count_in-maximal}
use Rattle.cov_steps.proofs.Rooted.{first-ordered}
use Rattle.cov_steps.proofs.Sorted.{inner-sorted}
use Rattle.cov_steps.specs.Runs.{count_in, counted}
use Rattle.cov_normal.specs.Nests.{IsChild, Nests}
use Rattle.cov_normal.specs.Nests.Nests.{plain, child}
use Rattle.cov_normal.specs.NestedLaws.{ItIsByCases, NoOtherIs, ItCounts, IsNested, ItIsNested, TwoAreOne}
use Rattle.cov_normal.proofs.Nests.{only, nests}

-- ---- where the ranges lie

-- it is nonempty and within start..end
abbrev pub lies : ℕ → ℕ → Range → Bool
lies start end r = nat_le start r.start && (nat_lt r.start r.end && nat_le r.end end)

lies-wider : (s e a q : ℕ) (r : Range) → s ≤ a → q ≤ e → lies a q r ≡ true → lies s e r ≡ true
lies-wider s e a q r low high is = grind (arith, nat_tests)

lies-first : (s e a p k : ℕ) → s ≤ a → a ≤ p → p < e → lies s e (range a (suc p) k) ≡ true
lies-first s e a p k low up high = grind (arith, nat_tests)

child-place : (f : ℕ → ℕ) (s e c a b p : ℕ) → IsChild f s e c a b p → (s ≤ a) × (a ≤ p) × (p < e)
child-place f s e c a b p h =
    let high = h.high in
    let to = h.to in
    (h.from, h.low, omega arith)

pub nests-lie : (f : ℕ → ℕ) (s e c : ℕ) (xs : List Range) → Nests f s e c xs → list_all (lies s e) xs ≡ true
nests-lie f s e c xs (plain _ _ _ _ all is) = ap (list_all (lies s e)) is
nests-lie f s e c xs (child _ _ _ a b p inside behind _ h i k is) =
    let place = child-place f s e c a b p h in
    let low = place.0 in
    let up = place.1 in
    let high = place.2 in
    let within = all-more (lies a (suc p)) (lies s e) (λ r l. lies-wider s e a (suc p) r low (omega arith) l) inside (nests-lie f a (suc p) (f a) inside i) in
    let after = all-more (lies (suc p) e) (lies s e) (λ r l. lies-wider s e (suc p) e r (omega arith) (omega arith) l) behind (nests-lie f (suc p) e c behind k) in
    ap (list_all (lies s e)) is
    ∙ and_from (lies s e (range a (suc p) (f a))) (list_all (lies s e) (inside ++ behind)) (lies-first s e a p (f a) low up high)
    (list_all-append (lies s e) inside behind ∙ and_from (list_all (lies s e) inside) (list_all (lies s e) behind) within after)

-- ---- how two of them lie

-- b may stand behind a: it begins no sooner, and the two don't cross
abbrev pub stands : Range → Range → Bool
stands a b = not (crosses a b) && precedes a b

stands-inside : (a q k : ℕ) (r : Range) → lies a q r ≡ true → stands (range a q k) r ≡ true
stands-inside a q k r l = grind (arith, nat_tests)

stands-behind : (s q e : ℕ) (x r : Range) → lies s q x ≡ true → lies q e r ≡ true → stands x r ≡ true
stands-behind s q e x r lx lr = grind (arith, nat_tests)

pairs-append : {A : Type 0} (t : A → A → Bool) (xs ys : List A) → each_pair t xs ≡ true → each_pair t ys ≡ true → list_all (λ x. list_all (t x) ys) xs ≡ true
    → each_pair t (xs ++ ys) ≡ true
pairs-append t [] ys ex ey all = ey
pairs-append t (x ∷ xs) ys ex ey all =
    let both = and_parts (list_all (t x) xs) (each_pair t xs) ex in
    let each = and_parts (list_all (t x) ys) (list_all (λ x. list_all (t x) ys) xs) all in
    and_from (list_all (t x) (xs ++ ys)) (each_pair t (xs ++ ys)) (list_all-append (t x) xs ys ∙ and_from (list_all (t x) xs) (list_all (t x) ys) both.0 each.0)
    (pairs-append t xs ys both.1 ey each.1)

pub nests-pairs : (f : ℕ → ℕ) (s e c : ℕ) (xs : List Range) → Nests f s e c xs → each_pair stands xs ≡ true
nests-pairs f s e c xs (plain _ _ _ _ all is) = ap (each_pair stands) is
nests-pairs f s e c xs (child _ _ _ a b p inside behind _ h i k is) =
    let place = child-place f s e c a b p h in
    let up = place.1 in
    let one = range a (suc p) (f a) in
    let lie-inside = nests-lie f a (suc p) (f a) inside i in
    let lie-behind = nests-lie f (suc p) e c behind k in
    let first-in = all-more (lies a (suc p)) (stands one) (λ r l. stands-inside a (suc p) (f a) r l) inside lie-inside in
    let itself : lies a (suc p) one ≡ true = lies-first a (suc p) a p (f a) (omega arith) up (omega arith) in
    let first-behind = all-more (lies (suc p) e) (stands one) (λ r l. stands-behind a (suc p) e one r itself l) behind lie-behind in
    let across = all-more (lies a (suc p)) (λ x. list_all (stands x) behind) (λ x lx. all-more (lies (suc p) e) (stands x) (λ r l. stands-behind a (suc p) e x r lx l) behind lie-behind) inside lie-inside in
    ap (each_pair stands) is
    ∙ and_from (list_all (stands one) (inside ++ behind)) (each_pair stands (inside ++ behind))
    (list_all-append (stands one) inside behind ∙ and_from (list_all (stands one) inside) (list_all (stands one) behind) first-in first-behind)
    (pairs-append stands inside behind (nests-pairs f a (suc p) (f a) inside i) (nests-pairs f (suc p) e c behind k) across)

-- ---- the last that has an offset

-- the count of the last that has the offset, or else d
abbrev pub told_at : ℕ → ℕ → List Range → ℕ
told_at d o [] = d
told_at d o (r ∷ rs) = told_at (cond (has_offset o r) r.count d) o rs

told-append : (d o : ℕ) (xs ys : List Range) → told_at d o (xs ++ ys) ≡ told_at (told_at d o xs) o ys
told-append d o [] ys = refl
told-append d o (x ∷ xs) ys = told-append (cond (has_offset o x) x.count d) o xs ys

out-below : (s e o : ℕ) (r : Range) → o < s → lies s e r ≡ true → has_offset o r ≡ false
out-below s e o r lt l = grind (arith, nat_tests)

out-above : (s e o : ℕ) (r : Range) → e ≤ o → lies s e r ≡ true → has_offset o r ≡ false
out-above s e o r le l = grind (arith, nat_tests)

told-none : (d o : ℕ) (p : Range → Bool) (xs : List Range) → ((r : Range) → p r ≡ true → has_offset o r ≡ false) → list_all p xs ≡ true → told_at d o xs ≡ d
told-none d o p [] out all = refl
told-none d o p (x ∷ xs) out all =
    let both = and_parts (p x) (list_all p xs) all in
    ap (λ b. told_at (cond b x.count d) o xs) (out x both.0) ∙ told-none d o p xs out both.1

has-first : (o a p k : ℕ) → a ≤ o → o < suc p → has_offset o (range a (suc p) k) ≡ true
has-first o a p k low high = grind (arith, nat_tests)

not-below : (o a p k : ℕ) → o < a → has_offset o (range a (suc p) k) ≡ false
not-below o a p k lt = grind (arith, nat_tests)

not-above : (o a p k : ℕ) → suc p ≤ o → has_offset o (range a (suc p) k) ≡ false
not-above o a p k le = grind (arith, nat_tests)

pub nests-told : (f : ℕ → ℕ) (s e c : ℕ) (xs : List Range) (o : ℕ) → Nests f s e c xs → s ≤ o → o < e → told_at c o xs ≡ f o
nests-told f s e c xs o (plain _ _ _ _ all is) low high = ap (told_at c o) is ∙ sym (all o low high)
nests-told f s e c xs o (child _ _ _ a b p inside behind _ h i k is) low high =
    let place = child-place f s e c a b p h in
    let up = place.1 in
    let one = range a (suc p) (f a) in
    let lie-inside = nests-lie f a (suc p) (f a) inside i in
    let lie-behind = nests-lie f (suc p) e c behind k in
    let told-inside = λ (within : a ≤ o) (below : o < suc p). nests-told f a (suc p) (f a) inside o i within below in
    let told-behind = λ (past : suc p ≤ o). nests-told f (suc p) e c behind o k past high in
    ap (told_at c o) is ∙ told-append (cond (has_offset o one) (f a) c) o inside behind
    ∙ elim (cases_lt o a) [
      | inl lt ↦
          ap (λ t. told_at (told_at (cond t (f a) c) o inside) o behind) (not-below o a p (f a) lt)
          ∙ ap (λ d. told_at d o behind) (told-none c o (lies a (suc p)) inside (λ r l. out-below a (suc p) o r lt l) lie-inside)
          ∙ told-none c o (lies (suc p) e) behind (λ r l. out-below (suc p) e o r (omega arith) l) lie-behind ∙ sym (h.first o low lt)
      | inr within ↦ elim (cases_lt o (suc p)) [
        | inl below ↦
            ap (λ t. told_at (told_at (cond t (f a) c) o inside) o behind) (has-first o a p (f a) within below)
            ∙ told-none (told_at (f a) o inside) o (lies (suc p) e) behind (λ r l. out-below (suc p) e o r below l) lie-behind
            ∙ told-inside within below
        | inr past ↦
            ap (λ t. told_at (told_at (cond t (f a) c) o inside) o behind) (not-above o a p (f a) past)
            ∙ ap (λ d. told_at d o behind) (told-none c o (lies a (suc p)) inside (λ r l. out-above a (suc p) o r past l) lie-inside)
            ∙ told-behind past
      ]
    ]

last-told : (o : ℕ) (r : Range) (xs : List Range) → last_count (r ∷ filter (has_offset o) xs) ≡ Some (told_at r.count o xs)
last-told o r [] = refl
last-told o r (x ∷ xs) =
    by (has_offset o x) (last-told o x xs) (last-told o r xs)
  where
    by : (t : Bool) → last_count (x ∷ filter (has_offset o) xs) ≡ Some (told_at x.count o xs) → last_count (r ∷ filter (has_offset o) xs) ≡ Some (told_at r.count o xs)
        → last_count (r ∷ cond t (x ∷ filter (has_offset o) xs) (filter (has_offset o) xs)) ≡ Some (told_at (cond t x.count r.count) o xs)
    by true in-x in-r = in-x
    by false in-x in-r = in-r

-- ---- the list of a root

next-from-pairs : (test : Range → Range → Bool) (xs : List Range) → each_pair test xs ≡ true → each_next test xs ≡ true
next-from-pairs test [] e = refl
next-from-pairs test (x ∷ []) e = refl
next-from-pairs test (x ∷ y ∷ xs) e =
    let both = and_parts (list_all (test x) (y ∷ xs)) (each_pair test (y ∷ xs)) e in
    and_from (test x y) (each_next test (y ∷ xs)) (and_parts (test x y) (list_all (test x) xs) both.0).0 (next-from-pairs test (y ∷ xs) both.1)

pairs-more : (p q : Range → Range → Bool) → ((a b : Range) → p a b ≡ true → q a b ≡ true) → (xs : List Range) → each_pair p xs ≡ true → each_pair q xs ≡ true
pairs-more p q h [] e = refl
pairs-more p q h (x ∷ xs) e =
    let both = and_parts (list_all (p x) xs) (each_pair p xs) e in
    and_from (list_all (q x) xs) (each_pair q xs) (all-more (p x) (q x) (h x) xs both.0) (pairs-more p q h xs both.1)

nested-pairs : (f : ℕ → ℕ) (s e c : ℕ) (xs : List Range) → Nests f s e c xs → each_pair stands (range s e c ∷ xs) ≡ true
nested-pairs f s e c xs h =
    and_from (list_all (stands (range s e c)) xs) (each_pair stands xs) (all-more (lies s e) (stands (range s e c)) (λ r l. stands-inside s e c r l) xs (nests-lie f s e c xs h))
    (nests-pairs f s e c xs h)

has-root : (o s e c : ℕ) → s ≤ o → o < e → has_offset o (range s e c) ≡ true
has-root o s e c low high = grind (arith, nat_tests)

pub nests-inner : (f : ℕ → ℕ) (s e c : ℕ) (xs : List Range) (o : ℕ) → Nests f s e c xs → s ≤ o → o < e → inner (range s e c ∷ xs) o ≡ Some (f o)
nests-inner f s e c xs o h low high =
    let all = range s e c ∷ xs in
    let pairs = nested-pairs f s e c xs h in
    let apart = pairs-more stands (λ a b. not (crosses a b)) (λ a b t. (and_parts (not (crosses a b)) (precedes a b) t).0) all pairs in
    let order = next-from-pairs precedes all (pairs-more stands precedes (λ a b t. (and_parts (not (crosses a b)) (precedes a b) t).1) all pairs) in
    inner-sorted o all all (IsPermutation-refl all) (λ x. refl) apart order
    ∙ ap (λ t. last_count (cond t (range s e c ∷ filter (has_offset o) xs) (filter (has_offset o) xs))) (has-root o s e c low high)
    ∙ last-told o (range s e c) xs ∙ ap Some (nests-told f s e c xs o h low high)

pub it_counts : ItCounts
unfolding nested
it_counts s e c f o low high = nests-inner f s e c (nest s e c f) o (nests f s e c) low high

lies-sound : (s e c : ℕ) (r : Range) → lies s e r ≡ true → (nat_le r.start r.end && is_within (range s e c) r) ≡ true
lies-sound s e c r l = grind (arith, nat_tests)

root-sound : (s e c : ℕ) → s ≤ e → (nat_le s e && is_within (range s e c) (range s e c)) ≡ true
root-sound s e c le = grind (arith, nat_tests)

pub nested-well : (s e c : ℕ) (f : ℕ → ℕ) → s ≤ e → range_fault (nested s e c f) ≡ None
unfolding nested is_well_nested
nested-well s e c f le =
    let xs = nest s e c f in
    let root = range s e c in
    let h = nests f s e c in
    let within : list_all (λ r. nat_le r.start r.end && is_within root r) (root ∷ xs) ≡ true =
    and_from (nat_le s e && is_within root root) (list_all (λ r. nat_le r.start r.end && is_within root r) xs) (root-sound s e c le)
    (all-more (lies s e) (λ r. nat_le r.start r.end && is_within root r) (λ r l. lies-sound s e c r l) xs (nests-lie f s e c xs h)) in
    let apart = pairs-more stands (λ a b. not (crosses a b)) (λ a b t. (and_parts (not (crosses a b)) (precedes a b) t).0) (root ∷ xs) (nested-pairs f s e c xs h) in
    (faultless_where_nested (root ∷ xs)).1 (and_from (list_all (λ r. nat_le r.start r.end && is_within root r) (root ∷ xs)) (each_pair (λ a b. not (crosses a b)) (root ∷ xs)) within apart)

-- ---- one list of the counts

pub it_is_by_cases : ItIsByCases
it_is_by_cases s e c f = nests f s e c

pub no_other_is : NoOtherIs
no_other_is s e c f xs h = only f s e c xs (nest s e c f) h (nests f s e c)

child-agrees : (f g : ℕ → ℕ) (s e c a b p : ℕ) → ((o : ℕ) → s ≤ o → o < e → f o ≡ g o) → IsChild f s e c a b p → IsChild g s e c a b p
child-agrees f g s e c a b p same h =
    let from = h.from in
    let to = h.to in
    let low = h.low in
    let high = h.high in
    let here : f a ≡ g a = same a from (omega arith) in
    record {
      from = from;
      to = to;
      first = λ o lo hi. sym (same o lo (omega arith)) ∙ h.first o lo hi;
      other = λ o lo hi is. h.other o lo hi (same o (omega arith) (omega arith) ∙ is);
      back = λ lt. sym (same b (omega arith) lt) ∙ h.back lt;
      low = low;
      high = high;
      same = sym (same p (omega arith) (omega arith)) ∙ h.same ∙ here;
      last = λ o lo hi is. h.last o lo hi (same o (omega arith) (omega arith) ∙ is ∙ sym here);
    }

nests-agree : (f g : ℕ → ℕ) (s e c : ℕ) (xs : List Range) → ((o : ℕ) → s ≤ o → o < e → f o ≡ g o) → Nests f s e c xs → Nests g s e c xs
nests-agree f g s e c xs same (plain _ _ _ _ all is) = plain s e c xs (λ o low high. sym (same o low high) ∙ all o low high) is
nests-agree f g s e c xs same (child _ _ _ a b p inside behind _ h i k is) =
    let place = child-place f s e c a b p h in
    let from = place.0 in
    let up = place.1 in
    let to = place.2 in
    let here : f a ≡ g a = same a from (omega arith) in
    let within = nests-agree f g a (suc p) (f a) inside (λ o low high. same o (omega arith) (omega arith)) i in
    child s e c a b p inside behind xs (child-agrees f g s e c a b p same h) (subst (λ n. Nests g a (suc p) n inside) here within)
    (nests-agree f g (suc p) e c behind (λ o low high. same o (omega arith) high) k) (is ∙ ap (λ n. range a (suc p) n ∷ (inside ++ behind)) here)

pub nest-agree : (f g : ℕ → ℕ) (s e c : ℕ) → ((o : ℕ) → s ≤ o → o < e → f o ≡ g o) → nest s e c f ≡ nest s e c g
nest-agree f g s e c same = only g s e c (nest s e c f) (nest s e c g) (nests-agree f g s e c (nest s e c f) same (nests f s e c)) (nests g s e c)

pub nested-same : (s e c : ℕ) (f g : ℕ → ℕ) → ((o : ℕ) → s ≤ o → o < e → f o ≡ g o) → nested s e c f ≡ nested s e c g
unfolding nested
nested-same s e c f g same = ap (λ xs. range s e c ∷ xs) (nest-agree f g s e c same)

pub nested-root : (s e c : ℕ) (f : ℕ → ℕ) → nested s e c f ≡ range s e c ∷ nest s e c f
unfolding nested
nested-root s e c f = refl

-- a list with these counts that is the nested one of some is the nested one of its own
pub nested-own : (root : Range) (rest : List Range) (f : ℕ → ℕ) → root.start ≤ root.end → root ∷ rest ≡ nested root.start root.end root.count f → IsNested (root ∷ rest)
nested-own root rest f le is = (
  le,
  is ∙ nested-same root.start root.end root.count f (inner_count (root ∷ rest))
      (λ o low high. sym (ap (λ xs. unwrap_or (inner xs o) 0) is ∙ ap (λ n. unwrap_or n 0) (it_counts root.start root.end root.count f o low high))),
)

pub it_is_nested : ItIsNested
unfolding nested
it_is_nested s e c f le = nested-own (range s e c) (nest s e c f) f le refl

tail-same : (x y : Range) (xs ys : List Range) → x ∷ xs ≡ y ∷ ys → xs ≡ ys
tail-same x y xs ys e = cc

pub two_are_one : TwoAreOne
two_are_one root a b ha hb same =
    tail-same root root a b
    (ha.1 ∙ nested-same root.start root.end root.count (inner_count (root ∷ a)) (inner_count (root ∷ b)) same ∙ sym hb.1)

pub nested-faultless : (ranges : List Range) → IsNested ranges → range_fault ranges ≡ None
nested-faultless [] h = absurd h
nested-faultless (root ∷ rest) h = ap range_fault h.1 ∙ nested-well root.start root.end root.count (inner_count (root ∷ rest)) h.0

-- the counts of the runs of ranges are their own, so that one list comes of both
pub nested-counted : (root : Range) (rest : List Range)
    → nested root.start root.end root.count (count_in (counted (root ∷ rest)).runs) ≡ nested root.start root.end root.count (inner_count (root ∷ rest))
nested-counted root rest =
    let f = inner_count (root ∷ rest) in
    nested-same root.start root.end root.count (count_in (maximal_runs root.start root.end f)) f (λ o low high. count_in-maximal root.start root.end o f low high)

-- ranges that nest are nested normal exactly where they are the list of their counts
pub is-own : (root : Range) (rest list : List Range) → range_fault (root ∷ rest) ≡ None → list ≡ nested root.start root.end root.count (inner_count (root ∷ rest))
    → (list ≡ root ∷ rest) ↔ IsNested (root ∷ rest)
is-own root rest list faultless is =
    let some : 1 ≤ length (root ∷ rest) = omega arith in
    (λ same. (first-ordered (root ∷ rest) root faultless some, sym same ∙ is), λ h. is ∙ sym h.1)
