-- What the tests of the normal shape tell, and that ranges of this shape nest.
use Rattle.std.proofs.Common.{◌≡◌, ℕ, ◌<◌, ◌≤◌, true, List, [], ◌∷◌, refl, arith}
use Rattle.std.specs.Prelude.{◌&&◌, not, nat_le, None}
use Rattle.std.specs.List.{list_all}
use Rattle.std.proofs.lemmas.Bool.Decides.{nat_tests}
use Rattle.std.proofs.lemmas.Bool.{leb-true, and_parts, and_from}
use Rattle.cov_model.specs.declared.report.Range.{Range}
use Rattle.cov_model.specs.Nesting.{crosses, each_pair, is_within, is_well_nested, range_fault}
use Rattle.cov_model.specs.Normal.{each_next, is_followed_by, is_flat}
use Rattle.cov_ranges.proofs.Nested.{faultless_where_nested}
use Rattle.cov_text.proofs.Bools.{all-more}
use Rattle.cov_normal.specs.Parts.{may_stand}

-- ---- the tests as facts

may-nonempty : (root r : Range) → may_stand root r ≡ true → r.start < r.end
may-nonempty root r e = grind (arith, nat_tests)

may-starts : (root r : Range) → may_stand root r ≡ true → root.start ≤ r.start
may-starts root r e = grind (arith, nat_tests)

may-ends : (root r : Range) → may_stand root r ≡ true → r.end ≤ root.end
may-ends root r e = grind (arith, nat_tests)

may-counts : (root r : Range) → may_stand root r ≡ true → ¬ (r.count ≡ root.count)
may-counts root r e = grind (arith, nat_tests)

follows-behind : (a b : Range) → is_followed_by a b ≡ true → a.end ≤ b.start
follows-behind a b e = grind (arith, nat_tests)

follows-otherwise : (a b : Range) → is_followed_by a b ≡ true → a.end ≡ b.start → ¬ (a.count ≡ b.count)
follows-otherwise a b e touch = grind (arith, nat_tests)

-- ---- ranges that lie apart

-- the next of these has another count where it touches
abbrev pub NextOtherwise : Range → List Range → Type 0
NextOtherwise r [] = Unit {0}
NextOtherwise r (x ∷ xs) = r.end ≡ x.start → ¬ (r.count ≡ x.count)

-- They rise from start to end, none is empty or has the count c, and two that touch have other counts.
abbrev pub Apart : ℕ → ℕ → ℕ → List Range → Type 0
Apart start end c [] = start ≤ end
Apart start end c (r ∷ rs) = (start ≤ r.start) × (r.start < r.end) × (¬ (r.count ≡ c)) × NextOtherwise r rs × Apart r.end end c rs

Apart-first : (root r : Range) (rs : List Range) → list_all (may_stand root) (r ∷ rs) ≡ true → each_next is_followed_by (r ∷ rs) ≡ true
    → Apart r.start root.end root.count (r ∷ rs)
Apart-first root r [] all next =
    let may = (and_parts (may_stand root r) true all).0 in
    (omega arith, may-nonempty root r may, may-counts root r may, tt, may-ends root r may)
Apart-first root r (x ∷ xs) all next =
    let may = and_parts (may_stand root r) (list_all (may_stand root) (x ∷ xs)) all in
    let follows = and_parts (is_followed_by r x) (each_next is_followed_by (x ∷ xs)) next in
    let later = Apart-first root x xs may.1 follows.1 in (
      omega arith,
      may-nonempty root r may.0,
      may-counts root r may.0,
      follows-otherwise r x follows.0,
      (follows-behind r x follows.0, later.1, later.2, later.3, later.4),
    )

Apart-all : (root : Range) (rs : List Range) → root.start ≤ root.end → list_all (may_stand root) rs ≡ true → each_next is_followed_by rs ≡ true
    → Apart root.start root.end root.count rs
Apart-all root [] le all next = le
Apart-all root (r ∷ rs) le all next =
    let may = (and_parts (may_stand root r) (list_all (may_stand root) rs) all).0 in
    let first = Apart-first root r rs all next in
    (may-starts root r may, first.1, first.2, first.3, first.4)

-- What is behind the root lies apart in it.
pub record Known (root : Range) (rest : List Range) : Type 0 where
  pub ordered : root.start ≤ root.end
  pub may : list_all (may_stand root) rest ≡ true
  pub apart : Apart root.start root.end root.count rest

pub known : (root : Range) (rest : List Range) → is_flat (root ∷ rest) ≡ true → Known root rest
unfolding is_flat
known root rest e =
    let first = and_parts (nat_le root.start root.end) (list_all (may_stand root) rest && each_next is_followed_by rest) e in
    let both = and_parts (list_all (may_stand root) rest) (each_next is_followed_by rest) first.1 in
    let le = leb-true root.start root.end first.0 in
    record { ordered = le; may = both.0; apart = Apart-all root rest le both.0 both.1 }

-- ---- they nest

apart-two : (a b : Range) → a.start < a.end → b.start < b.end → a.end ≤ b.start → not (crosses a b) ≡ true
apart-two a b up also behind = grind (arith, nat_tests)

apart-later : (a : Range) (s e c : ℕ) (rs : List Range) → a.start < a.end → a.end ≤ s → Apart s e c rs → list_all (λ b. not (crosses a b)) rs ≡ true
apart-later a s e c [] up le h = refl
apart-later a s e c (r ∷ rs) up le h =
    and_from (not (crosses a r)) (list_all (λ b. not (crosses a b)) rs) (apart-two a r up h.1 (omega (arith, h.0))) (apart-later a r.end e c rs up (omega (arith, h.0, h.1)) h.4)

apart-pairs : (s e c : ℕ) (rs : List Range) → Apart s e c rs → each_pair (λ a b. not (crosses a b)) rs ≡ true
apart-pairs s e c [] h = refl
apart-pairs s e c (r ∷ rs) h =
    let later : r.end ≤ r.end = omega arith in
    and_from (list_all (λ b. not (crosses r b)) rs) (each_pair (λ a b. not (crosses a b)) rs) (apart-later r r.end e c rs h.1 later h.4) (apart-pairs r.end e c rs h.4)

may-lies : (root r : Range) → may_stand root r ≡ true → (nat_le r.start r.end && is_within root r) ≡ true
may-lies root r e = grind (arith, nat_tests)

may-apart : (root r : Range) → may_stand root r ≡ true → not (crosses root r) ≡ true
may-apart root r e = grind (arith, nat_tests)

root-lies : (root : Range) → root.start ≤ root.end → (nat_le root.start root.end && is_within root root) ≡ true
root-lies root le = grind (arith, nat_tests)

pub shape-nests : (ranges : List Range) → is_flat ranges ≡ true → range_fault ranges ≡ None
unfolding is_flat is_well_nested
shape-nests [] e = absurd cc
shape-nests (root ∷ rest) e =
    let is = known root rest e in
    let within : list_all (λ r. nat_le r.start r.end && is_within root r) (root ∷ rest) ≡ true =
    and_from (nat_le root.start root.end && is_within root root) (list_all (λ r. nat_le r.start r.end && is_within root r) rest) (root-lies root is.ordered)
    (all-more (may_stand root) (λ r. nat_le r.start r.end && is_within root r) (may-lies root) rest is.may) in
    let pairs : each_pair (λ a b. not (crosses a b)) (root ∷ rest) ≡ true =
    and_from (list_all (λ b. not (crosses root b)) rest) (each_pair (λ a b. not (crosses a b)) rest) (all-more (may_stand root) (λ b. not (crosses root b)) (may-apart root) rest is.may)
    (apart-pairs root.start root.end root.count rest is.apart) in
    (faultless_where_nested (root ∷ rest)).1 (and_from (list_all (λ r. nat_le r.start r.end && is_within root r) (root ∷ rest)) (each_pair (λ a b. not (crosses a b)) (root ∷ rest)) within pairs)
