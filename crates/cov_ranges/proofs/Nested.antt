-- A list of ranges has no fault exactly where it is well nested, and then its root alone says which offsets are counted.
use Rattle.std.proofs.Common.{◌≡◌, ℕ, suc, ◌+◌, Bool, true, false, ◌&&◌, List, [], ◌∷◌, ◌++◌, refl, sym, ap, ◌∙◌, arith, length}
use Rattle.std.proofs.Math.Bool.{and-true, or_comm}
use Rattle.std.specs.Prelude.{Option, None, Some, nat_le, nat_lt, cond, filter, not, is_none, option_map}
use Rattle.std.specs.List.{list_all, position_or_len}
use Rattle.std.proofs.lemmas.Bool.Decides.{nat_tests}
use Rattle.std.proofs.lemmas.List.Folds.{list_all-append}
use Rattle.std.proofs.lemmas.Bool.{and_parts}
use Rattle.cov_text.proofs.Bools.{all-same, all-yes, all-both}
use Rattle.cov_model.specs.declared.report.Range.{Range}
use Rattle.cov_model.specs.Nesting.{has_offset, is_within, runs_into, crosses, fault_at, fault_from, range_fault, or_else, each_pair, is_well_nested, innermost, inner}
use Rattle.cov_ranges.specs.Root.{root_has}
use Rattle.cov_ranges.specs.Front.{sound, apart}
use Rattle.cov_ranges.specs.Laws.{FaultlessWhereNested}
use Rattle.cov_ranges.proofs.Innermost.{scanned, scanned-innermost, scanned-Some}

-- ---- tests

lt-next : (m n : ℕ) → nat_lt (1 + m) (suc n) ≡ nat_lt m n
lt-next m n = grind (arith, nat_tests)

lt-first : (n : ℕ) → nat_lt 0 (suc n) ≡ true
lt-first n = grind (arith, nat_tests)

lt-not : (m n : ℕ) → nat_lt m n ≡ not (nat_le n m)
lt-not m n = grind (arith, nat_tests)

not-not : (a : Bool) → not (not a) ≡ a
not-not true = refl
not-not false = refl

-- a place is found exactly where one passes
found : {A : Type 0} (p : A → Bool) (xs : List A) → nat_lt (position_or_len p xs) (length xs) ≡ not (list_all (λ x. not (p x)) xs)
found p [] = refl
found p (x ∷ xs) =
    elim (p x) as (λ b. nat_lt (cond (not b) (1 + position_or_len p xs) 0) (suc (length xs)) ≡ not (not b && list_all (λ x. not (p x)) xs)) [
      | true ↦ lt-first (length xs)
      | false ↦ lt-next (position_or_len p xs) (length xs) ∙ found p xs
    ]

-- ---- the faults

pub apart-swap : (a b : Range) → apart a b ≡ apart b a
apart-swap a b = ap not (or_comm (runs_into a b) (runs_into b a))

no-fault : {A B : Type 0} (inverted within hit : Bool) (x z : B) (g : A → B) (i : A)
    → is_none (cond inverted (Some x) (cond within (option_map g (cond hit (Some i) None)) (Some z))) ≡ ((not inverted && within) && not hit)
no-fault true within hit x z g i = refl
no-fault false false hit x z g i = refl
no-fault false true true x z g i = refl
no-fault false true false x z g i = refl

fault_at-None : (root : Range) (earlier : List Range) (k : ℕ) (r : Range) → is_none (fault_at root earlier k r) ≡ (sound root r && list_all (λ a. apart a r) earlier)
fault_at-None root earlier k r =
    no-fault (nat_lt r.end r.start) (is_within root r) (nat_lt (position_or_len (crosses r) earlier) (length earlier)) _ _ _ _
    ∙ (λ i. (not (lt-not r.end r.start i) && is_within root r) && not (found (crosses r) earlier i))
    ∙ (λ i. (not-not (nat_le r.start r.end) i && is_within root r) && not-not (list_all (λ a. not (crosses r a)) earlier) i)
    ∙ ap (λ b. sound root r && b) (all-same (λ a. apart r a) (λ a. apart a r) (λ a. apart-swap r a) earlier)

pub or_else-None : {A : Type 0} (a b : Option A) → is_none (or_else a b) ≡ (is_none a && is_none b)
or_else-None (Some x) b = refl
or_else-None None b = refl

regroup : (s p all each x y : Bool) → ((s && p) && (all && (each && (x && (y && true))))) ≡ ((s && all) && ((y && each) && (p && x)))
regroup false p all each x y = refl
regroup true false false each x y = refl
regroup true false true each x false = refl
regroup true false true false x true = refl
regroup true false true true x true = refl
regroup true true false each x y = refl
regroup true true true false x false = refl
regroup true true true false x true = refl
regroup true true true true false false = refl
regroup true true true true false true = refl
regroup true true true true true false = refl
regroup true true true true true true = refl

pub fault_from-None : (root : Range) (rest earlier : List Range)
    → is_none (fault_from root earlier rest) ≡ (list_all (sound root) rest && (each_pair apart rest && list_all (λ a. list_all (apart a) rest) earlier))
fault_from-None root [] earlier = sym (all-yes earlier)
fault_from-None root (r ∷ rest) earlier =
    or_else-None (fault_at root earlier (length earlier) r) (fault_from root (earlier ++ r ∷ []) rest)
    ∙ (λ i. fault_at-None root earlier (length earlier) r i && fault_from-None root rest (earlier ++ r ∷ []) i)
    ∙ ap (λ b. (sound root r && list_all (λ a. apart a r) earlier) && (list_all (sound root) rest && (each_pair apart rest && b))) (list_all-append (λ a. list_all (apart a) rest) earlier (r ∷ []))
    ∙ regroup (sound root r) (list_all (λ a. apart a r) earlier) (list_all (sound root) rest) (each_pair apart rest) (list_all (λ a. list_all (apart a) rest) earlier) (list_all (apart r) rest)
    ∙ ap (λ b. (sound root r && list_all (sound root) rest) && ((list_all (apart r) rest && each_pair apart rest) && b)) (sym (all-both (λ a. apart a r) (λ a. list_all (apart a) rest) earlier))

pub range_fault-None : (ranges : List Range) → is_none (range_fault ranges) ≡ is_well_nested ranges
unfolding range_fault is_well_nested
range_fault-None [] = refl
range_fault-None (root ∷ rest) =
    fault_from-None root (root ∷ rest) [] ∙ ap (λ b. list_all (sound root) (root ∷ rest) && b) (and-true (each_pair apart (root ∷ rest)))

pub none-from : {A : Type 0} (o : Option A) → is_none o ≡ true → o ≡ None
none-from None e = refl
none-from (Some x) e = absurd cc

pub nested-from-faultless : (ranges : List Range) → range_fault ranges ≡ None → is_well_nested ranges ≡ true
nested-from-faultless ranges e = sym (range_fault-None ranges) ∙ ap is_none e

pub faultless_where_nested : FaultlessWhereNested
faultless_where_nested ranges = (nested-from-faultless ranges, λ e. none-from (range_fault ranges) (range_fault-None ranges ∙ e))

-- ---- the root alone says which offsets are counted

outside : (o : ℕ) (root r : Range) → has_offset o root ≡ false → sound root r ≡ true → has_offset o r ≡ false
outside o root r out within = grind (arith, nat_tests)

none-around : (o : ℕ) (root : Range) (rs : List Range) → has_offset o root ≡ false → list_all (sound root) rs ≡ true → filter (has_offset o) rs ≡ []
none-around o root [] out all = refl
none-around o root (r ∷ rs) out all =
    let both = and_parts (sound root r) (list_all (sound root) rs) all in
    ap (λ b. cond b (r ∷ filter (has_offset o) rs) (filter (has_offset o) rs)) (outside o root r out both.0) ∙ none-around o root rs out both.1

some-scanned : (r : Range) (rs : List Range) → is_none (scanned None (r ∷ rs)) ≡ false
some-scanned r rs = let some = scanned-Some r rs in ap is_none some.1

none-map : {A B : Type 0} (g : A → B) (o : Option A) → is_none (option_map g o) ≡ is_none o
none-map g None = refl
none-map g (Some x) = refl

innermost-None : (o : ℕ) (root : Range) (rest : List Range) → list_all (sound root) (root ∷ rest) ≡ true → (b : Bool) → has_offset o root ≡ b → is_none (scanned None (filter (has_offset o) (root ∷ rest))) ≡ not b
innermost-None o root rest all true has =
    ap (λ b. is_none (scanned None (cond b (root ∷ filter (has_offset o) rest) (filter (has_offset o) rest)))) has ∙ some-scanned root (filter (has_offset o) rest)
innermost-None o root rest all false has = ap (λ rs. is_none (scanned None rs)) (none-around o root (root ∷ rest) has all)

nested-None : (ranges : List Range) (o : ℕ) → is_well_nested ranges ≡ true → is_none (innermost ranges o) ≡ not (root_has ranges o)
unfolding is_well_nested
nested-None [] o e = absurd cc
nested-None (root ∷ rest) o e =
    let both = and_parts (list_all (sound root) (root ∷ rest)) (each_pair apart (root ∷ rest)) e in
    ap is_none (sym (scanned-innermost (filter (has_offset o) (root ∷ rest)))) ∙ innermost-None o root rest both.0 (has_offset o root) refl

-- No range is innermost at an offset exactly where the root lacks it.
pub innermost-root : (ranges : List Range) (o : ℕ) → range_fault ranges ≡ None → is_none (innermost ranges o) ≡ not (root_has ranges o)
innermost-root ranges o e = nested-None ranges o (nested-from-faultless ranges e)

pub inner-root : (ranges : List Range) (o : ℕ) → range_fault ranges ≡ None → is_none (inner ranges o) ≡ not (root_has ranges o)
unfolding inner
inner-root ranges o e = none-map (λ r. r.count) (innermost ranges o) ∙ innermost-root ranges o e
