-- Ranges in V8's order, walked from their root on.
use Rattle.std.proofs.Common.{◌≡◌, ℕ, zero, suc, ◌+◌, ◌<◌, ◌≤◌, Bool, true, false, List, [], ◌∷◌, ◌++◌, refl, sym, ap, ◌∙◌, subst, arith, length, take, drop}
use Rattle.std.specs.Prelude.{cond, nat_le, nat_lt, ◌&&◌, not, filter, Option, None, Some, is_none, is_some, unwrap_or, get_or}
use Rattle.std.specs.List.{list_all}
use Rattle.std.specs.List.Sorted.{IsPermutation, IsSortedBy, IsStableBy}
use Rattle.std.proofs.lemmas.Bool.{le-leb, lt-ltb, and_parts, and_from}
use Rattle.std.proofs.lemmas.Bool.Decides.{nat_tests}
use Rattle.std.proofs.lemmas.List.{take_more}
use Rattle.std.proofs.lemmas.List.Sorted.{IsPermutation-refl}
use Rattle.cov_text.specs.Listing.{first_of}
use Rattle.cov_text.proofs.Bools.{all-more}
use Rattle.cov_model.specs.declared.report.Range.{Range}
use Rattle.cov_model.specs.Nesting.{has_offset, crosses, each_pair, range_fault, is_well_nested, inner, inner_count}
use Rattle.cov_model.specs.Normal.{each_next, maximal_runs}
use Rattle.cov_ranges.proofs.Nested.{nested-from-faultless, inner-root}
use Rattle.cov_ranges.specs.Order.{comes_first, ends_behind, precedes}
use Rattle.cov_ranges.proofs.Pairs.{all-permuted}
use Rattle.cov_ranges.proofs.Sorted.{order-from-sorted, pairs-from-next}
use Rattle.cov_steps.specs.Walking.{lies_in, last_count, last_at, open_count, starts_from, Walkable}
use Rattle.cov_steps.specs.Runs.{count_in}
use Rattle.cov_steps.specs.Laws.{RunsCount}
use Rattle.cov_steps.proofs.Maximal.{maximal_runs-same, AreRuns-maximal, count_in-maximal}
use Rattle.cov_steps.proofs.Open.{last_count-behind}
use Rattle.cov_steps.proofs.Sorted.{inner-sorted}

-- ---- the root

-- what is known of well nested ranges with this root
record Nested (root : Range) (ranges : List Range) : Type 0 where
  within : list_all (lies_in root) ranges ≡ true
  apart : each_pair (λ a b. not (crosses a b)) ranges ≡ true
  has : (o : ℕ) → root.start ≤ o → o < root.end → is_none (inner ranges o) ≡ false
  ordered : root.start ≤ root.end

has-within : (root : Range) (o : ℕ) → root.start ≤ o → o < root.end → has_offset o root ≡ true
has-within root o low high = (λ i. le-leb root.start o low i && nat_lt o root.end) ∙ lt-ltb o root.end high

lies-ordered : (root r : Range) → lies_in root r ≡ true → (r.start ≤ r.end) × (root.start ≤ r.start) × (r.end ≤ root.end)
lies-ordered root r e = (grind (arith, nat_tests), grind (arith, nat_tests), grind (arith, nat_tests))

nested : (ranges : List Range) (root : Range) → range_fault ranges ≡ None → first_of ranges ≡ Some root → Nested root ranges
unfolding is_well_nested
nested [] root faultless first = absurd cc
nested (r ∷ rest) root faultless first =
    let is : r ≡ root = cc in
    let both = and_parts (list_all (lies_in r) (r ∷ rest)) (each_pair (λ a b. not (crosses a b)) (r ∷ rest)) (nested-from-faultless (r ∷ rest) faultless) in
    let itself = (lies-ordered r r (and_parts (lies_in r r) (list_all (lies_in r) rest) both.0).0).0 in
    record {
      within = ap (λ x. list_all (lies_in x) (r ∷ rest)) (sym is) ∙ both.0;
      apart = both.1;
      has = λ o low high. inner-root (r ∷ rest) o faultless ∙ ap not (ap (has_offset o) is ∙ has-within root o low high);
      ordered = subst (λ (x : Range). x.start ≤ x.end) is itself;
    }

pub first-ordered : (ranges : List Range) (d : Range) → range_fault ranges ≡ None → 1 ≤ length ranges → (get_or ranges 0 d).start ≤ (get_or ranges 0 d).end
first-ordered [] d faultless some = absurd (omega arith)
first-ordered (r ∷ rest) d faultless some = (nested (r ∷ rest) r faultless refl).ordered

all-at : (p : Range → Bool) (rs : List Range) (i : ℕ) (d : Range) → list_all p rs ≡ true → i < length rs → p (get_or rs i d) ≡ true
all-at p [] i d all lt = absurd (omega arith)
all-at p (r ∷ rs) zero d all lt = (and_parts (p r) (list_all p rs) all).0
all-at p (r ∷ rs) (suc i) d all lt = all-at p rs i d (and_parts (p r) (list_all p rs) all).1 (omega arith)

pub within-root : (ranges : List Range) (root d : Range) (i : ℕ) → list_all (lies_in root) ranges ≡ true → i < length ranges → (get_or ranges i d).start ≤ root.end
within-root ranges root d i within lt = let is = lies-ordered root (get_or ranges i d) (all-at (lies_in root) ranges i d within lt) in omega (arith, is.0, is.2)

-- ---- ranges that were sorted

pub record Sorted (root : Range) (ranges ordered : List Range) : Type 0 where
  pub walk : Walkable root ordered
  pub counts : maximal_runs root.start root.end (λ o. unwrap_or (last_at ordered o) 0) ≡ maximal_runs root.start root.end (inner_count ranges)

some-not : (c : Option ℕ) → is_none c ≡ false → is_some c ≡ true
some-not None e = absurd cc
some-not (Some x) e = refl

pub sorted-from : (ranges ordered : List Range) (root : Range) → range_fault ranges ≡ None → first_of ranges ≡ Some root
    → IsPermutation ranges ordered → IsSortedBy comes_first ordered → IsStableBy comes_first ranges ordered → Sorted root ranges ordered
sorted-from ranges ordered root faultless first perm sorts stable =
    let is = nested ranges root faultless first in
    let order = order-from-sorted ordered sorts in
    let within : list_all (lies_in root) ordered ≡ true = sym (all-permuted (lies_in root) ranges ordered perm) ∙ is.within in
    let same : (o : ℕ) → inner ranges o ≡ last_at ordered o = λ o. inner-sorted o ranges ordered perm stable is.apart order in
    record {
      walk = record {
        order = order;
        starts = all-more (lies_in root) (λ r. nat_le root.start r.start) (λ r e. let low = (lies-ordered root r e).1 in le-leb root.start r.start low) ordered within;
        within = within;
        nonempty = is.ordered;
        covered = λ o low high. ap is_some (sym (same o)) ∙ some-not (inner ranges o) (is.has o low high);
      };
      counts =
          maximal_runs-same root.start root.end (λ o. unwrap_or (last_at ordered o) 0) (inner_count ranges) (λ o low high. ap (λ c. unwrap_or c 0) (sym (same o)));
    }

-- the same of ranges that stand in order as they are
pub sorted-itself : (ranges : List Range) (root : Range) → range_fault ranges ≡ None → first_of ranges ≡ Some root → IsSortedBy comes_first ranges → Sorted root ranges ranges
sorted-itself ranges root faultless first sorts = sorted-from ranges ranges root faultless first (IsPermutation-refl ranges) sorts (λ x. refl)

-- ---- what the runs of ranges count

counted-root : (ranges : List Range) (root : Range) → range_fault ranges ≡ None → first_of ranges ≡ Some root → (o : ℕ) → root.start ≤ o → o < root.end
    → inner ranges o ≡ Some (count_in (maximal_runs root.start root.end (inner_count ranges)) o)
counted-root ranges root faultless first o low high =
    some-or (inner ranges o) (some-not (inner ranges o) ((nested ranges root faultless first).has o low high)) ∙ ap Some (sym (count_in-maximal root.start root.end o (inner_count ranges) low high))
  where
    some-or : (c : Option ℕ) → is_some c ≡ true → c ≡ Some (unwrap_or c 0)
    some-or None e = absurd cc
    some-or (Some x) e = refl

pub runs_count : RunsCount
unfolding range_fault
runs_count [] faultless = absurd cc
runs_count (r ∷ rest) faultless =
    (AreRuns-maximal r.start r.end (inner_count (r ∷ rest)) (nested (r ∷ rest) r faultless refl).ordered, counted-root (r ∷ rest) r faultless refl)

-- ---- where the rest starts

pub starts-at : (n : ℕ) (ranges : List Range) (i : ℕ) (d : Range) → starts_from n (drop i ranges) ≡ true → i < length ranges → n ≤ (get_or ranges i d).start
starts-at n [] i d e lt = absurd (omega arith)
starts-at n (r ∷ rs) zero d e lt = let is = (and_parts (nat_le n r.start) (starts_from n rs) e).0 in tells n r.start is
  where
    tells : (a b : ℕ) → nat_le a b ≡ true → a ≤ b
    tells a b is = grind (arith, nat_tests)
starts-at n (r ∷ rs) (suc i) d e lt = starts-at n rs i d e (omega arith)

starts-pairs : (ranges : List Range) (i : ℕ) (d : Range) → each_pair precedes ranges ≡ true → i < length ranges → starts_from (get_or ranges i d).start (drop i ranges) ≡ true
starts-pairs [] i d pairs lt = absurd (omega arith)
starts-pairs (r ∷ rs) zero d pairs lt =
    let all = (and_parts (list_all (precedes r) rs) (each_pair precedes rs) pairs).0 in
    and_from (nat_le r.start r.start) (starts_from r.start rs) (itself r.start) (all-more (precedes r) (λ x. nat_le r.start x.start) (λ x e. starts r x e) rs all)
  where
    itself : (n : ℕ) → nat_le n n ≡ true
    itself n = grind (arith, nat_tests)

    starts : (a b : Range) → precedes a b ≡ true → nat_le a.start b.start ≡ true
    starts a b e = grind (arith, nat_tests)
starts-pairs (r ∷ rs) (suc i) d pairs lt = starts-pairs rs i d (and_parts (list_all (precedes r) rs) (each_pair precedes rs) pairs).1 (omega arith)

pub starts-next : (ranges : List Range) (i : ℕ) (d : Range) → each_next precedes ranges ≡ true → i < length ranges → starts_from (get_or ranges i d).start (drop i ranges) ≡ true
starts-next ranges i d order lt = starts-pairs ranges i d (pairs-from-next ranges order) lt

starts-behind : (n : ℕ) (ranges : List Range) (i : ℕ) → starts_from n (drop i ranges) ≡ true → starts_from n (drop (suc i) ranges) ≡ true
starts-behind n [] i e = refl
starts-behind n (r ∷ rs) zero e = (and_parts (nat_le n r.start) (starts_from n rs) e).1
starts-behind n (r ∷ rs) (suc i) e = starts-behind n rs i e

pub starts-more : (n : ℕ) (ranges : List Range) (i : ℕ) → starts_from n (drop i ranges) ≡ true → starts_from n (drop (i + 1) ranges) ≡ true
starts-more n ranges i e = let next : suc i ≡ i + 1 = omega arith in subst (λ k. starts_from n (drop k ranges) ≡ true) next (starts-behind n ranges i e)

pub starts-none : (n : ℕ) (ranges : List Range) (i : ℕ) → length ranges ≤ i → starts_from n (drop i ranges) ≡ true
starts-none n [] zero le = refl
starts-none n [] (suc i) le = refl
starts-none n (r ∷ rs) zero le = absurd (omega arith)
starts-none n (r ∷ rs) (suc i) le = starts-none n rs i (omega arith)

-- ---- what those so far count

none-starts : (o to : ℕ) (rs : List Range) → starts_from to rs ≡ true → o < to → filter (has_offset o) rs ≡ []
none-starts o to [] e lt = refl
none-starts o to (r ∷ rs) e lt =
    let both = and_parts (nat_le to r.start) (starts_from to rs) e in
    ap (λ b. cond b (r ∷ filter (has_offset o) rs) (filter (has_offset o) rs)) (out r both.0) ∙ none-starts o to rs both.1 lt
  where
    out : (r : Range) → nat_le to r.start ≡ true → has_offset o r ≡ false
    out r e = grind (arith, nat_tests)

-- what starts behind the offset counts for nothing there
front-only : (o to : ℕ) (rs : List Range) (i : ℕ) → starts_from to (drop i rs) ≡ true → o < to → filter (has_offset o) rs ≡ filter (has_offset o) (take i rs)
front-only o to [] zero e lt = refl
front-only o to [] (suc i) e lt = refl
front-only o to (r ∷ rs) zero e lt = none-starts o to (r ∷ rs) e lt
front-only o to (r ∷ rs) (suc i) e lt = ap (λ tail. cond (has_offset o r) (r ∷ tail) tail) (front-only o to rs i e lt)

some-or : (c : Option ℕ) → is_some c ≡ true → c ≡ Some (unwrap_or c 0)
some-or None e = absurd cc
some-or (Some x) e = refl

pub counts-so-far : (ranges : List Range) (root : Range) (i at to : ℕ) (ops : List Range) → ((o : ℕ) → root.start ≤ o → o < root.end → is_some (last_at ranges o) ≡ true)
    → root.start ≤ at → to ≤ root.end → starts_from to (drop i ranges) ≡ true
    → ((o : ℕ) → at ≤ o → open_count ops o ≡ last_at (take i ranges) o)
    → (o : ℕ) → at ≤ o → o < to → open_count ops o ≡ Some (unwrap_or (last_at ranges o) 0)
counts-so-far ranges root i at to ops covered from end rest counts o low high =
    counts o low ∙ ap last_count (sym (front-only o to ranges i rest high)) ∙ some-or (last_at ranges o) (covered o (omega arith) (omega arith))

-- one more range is open, and it starts no later than the offset
pub counts-more : (ranges : List Range) (i : ℕ) (d : Range) (ops more : List Range) (o : ℕ) → i < length ranges → (get_or ranges i d).start ≤ o
    → more ≡ ops ++ get_or ranges i d ∷ [] → open_count ops o ≡ last_at (take i ranges) o → open_count more o ≡ last_at (take (i + 1) ranges) o
counts-more ranges i d ops more o lt low grew had =
    let r = get_or ranges i d in
    let same : ends_behind o r ≡ has_offset o r = sym (λ j. le-leb r.start o low j && nat_lt o r.end) in
    ap (λ rs. open_count rs o) grew ∙ last_count-behind (ends_behind o) ops r ∙ ap (cond (ends_behind o r) (Some r.count)) had
    ∙ ap (λ b. cond b (Some r.count) (last_count (filter (has_offset o) (take i ranges)))) same
    ∙ sym (last_count-behind (has_offset o) (take i ranges) r)
    ∙ ap (λ rs. last_count (filter (has_offset o) rs)) (sym (take_more ranges i d lt))
