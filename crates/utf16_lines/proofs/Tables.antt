-- The lines of a table stand in order.
use Rattle.std.proofs.Common.{◌≡◌, ℕ, zero, suc, ◌+◌, ◌-◌, ◌<◌, ◌≤◌, Bool, true, false, cond, ◌&&◌, List, [], ◌∷◌, length, refl, sym, ap, ◌∙◌, subst, arith, inl, inr}
use Rattle.std.specs.Prelude.{sum, Some, slice_get, get_or, nat_le, ◌==◌}
use Rattle.std.specs.List.Sorted.{IsNonDecreasingBy}
use Rattle.std.proofs.lemmas.Bool.{cases_lt, cases_Bool, leb-true, le-leb, and_parts}
use Rattle.std.proofs.lemmas.Option.{same_Some, slice_get-get_or}
use Rattle.std.proofs.lemmas.List.Sums.{sum_by-cons}
use Rattle.utf16_lines.specs.declared.Span.{Span}
use Rattle.utf16_lines.specs.Table.{are_lines, begins_with_text}
use Rattle.utf16_lines.specs.Lines.{span, spans_from, lines_of_lengths}

all_four : (a b c d : Bool) → a ≡ true → b ≡ true → c ≡ true → d ≡ true → (a && (b && (c && d))) ≡ true
all_four a b c d p q r s = (λ i. p i && (q i && (r i && s i)))

-- what the first line and the others have
record Heads (least units : ℕ) (s : Span) (spans : List Span) : Type 0 where
  behind : least ≤ s.start
  order : s.start ≤ s.end
  within : s.end ≤ units
  rest : are_lines (s.end + 1) units spans ≡ true

heads : (least units : ℕ) (s : Span) (spans : List Span) → are_lines least units (s ∷ spans) ≡ true → Heads least units s spans
heads least units s spans e =
    let a = and_parts (nat_le least s.start) _ e in
    let b = and_parts (nat_le s.start s.end) _ a.1 in
    let c = and_parts (nat_le s.end units) _ b.1 in
    record { behind = leb-true least s.start a.0; order = leb-true s.start s.end b.0; within = leb-true s.end units c.0; rest = c.1 }

cons-are_lines : (least units : ℕ) (s : Span) (spans : List Span) → least ≤ s.start → s.start ≤ s.end → s.end ≤ units → are_lines (s.end + 1) units spans ≡ true
    → are_lines least units (s ∷ spans) ≡ true
cons-are_lines least units s spans a b c d = all_four _ _ _ _ (le-leb least s.start a) (le-leb s.start s.end b) (le-leb s.end units c) d

-- where each line stands
pub record Stands (least units : ℕ) (s : Span) : Type 0 where
  pub behind : least ≤ s.start
  pub order : s.start ≤ s.end
  pub within : s.end ≤ units

pub stands : (least units : ℕ) (spans : List Span) (i : ℕ) (s : Span) → are_lines least units spans ≡ true → slice_get spans i ≡ Some s → Stands least units s
stands least units [] i s e at = cc
stands least units (t ∷ spans) zero s e at =
    let h = heads least units t spans e in
    let same : t ≡ s = same_Some t s at in
    subst (λ u. Stands least units u) same (record { behind = h.behind; order = h.order; within = h.within })
stands least units (t ∷ spans) (suc i) s e at =
    let h = heads least units t spans e in
    let r = stands (t.end + 1) units spans i s h.rest at in
    let a = h.behind in let b = h.order in let c = r.behind in
    record { behind = omega arith; order = r.order; within = r.within }

-- a later line begins behind the end of an earlier one
pub rising : (least units : ℕ) (spans : List Span) (i j : ℕ) (s t : Span) → are_lines least units spans ≡ true
    → slice_get spans i ≡ Some s → slice_get spans j ≡ Some t → i < j → s.end < t.start
rising least units [] i j s t e at_i at_j lt = cc
rising least units (u ∷ spans) zero zero s t e at_i at_j lt = absurd (omega arith)
rising least units (u ∷ spans) zero (suc j) s t e at_i at_j lt =
    let h = heads least units u spans e in
    let r = stands (u.end + 1) units spans j t h.rest at_j in
    let b = r.behind in
    let same : u.end ≡ s.end = ap (λ (v : Span). v.end) (same_Some u s at_i) in
    omega arith
rising least units (u ∷ spans) (suc i) zero s t e at_i at_j lt = absurd (omega arith)
rising least units (u ∷ spans) (suc i) (suc j) s t e at_i at_j lt = rising (u.end + 1) units spans i j s t (heads least units u spans e).rest at_i at_j (omega arith)

-- so the starts never fall
pub starts_rise : (least units : ℕ) (spans : List Span) → are_lines least units spans ≡ true → IsNonDecreasingBy (λ (s : Span). s.start) spans
starts_rise least units spans e i j d le lt =
    let at_i = slice_get-get_or spans i d (omega arith) in
    let at_j = slice_get-get_or spans j d lt in
    elim (cases_lt i j) [
      | inl below ↦
          let o = (stands least units spans i (get_or spans i d) e at_i).order in
          let r = rising least units spans i j (get_or spans i d) (get_or spans j d) e at_i at_j below in
          omega arith
      | inr above ↦ let same : i ≡ j = omega arith in let eq = ap (λ k. (get_or spans k d).start) same in omega arith
    ]

-- where a line ends, by whether a CR stands before its LF
end_order : (start at : ℕ) (cr : Bool) → start ≤ at → (cr ≡ true → start < at) → (start ≤ cond cr (at - 1) at) × (cond cr (at - 1) at ≤ at)
end_order start at true b c = let lt = c refl in (omega arith, omega arith)
end_order start at false b c = (b, omega arith)

-- the lines that are found from a list of units
pub spans_from-are_lines : (least start at : ℕ) (cr : Bool) (us : List ℕ) → least ≤ start → start ≤ at → (cr ≡ true → start < at)
    → are_lines least (at + length us) (spans_from start cr at us) ≡ true
spans_from-are_lines least start at cr [] a b c =
    elim (cases_Bool (start == at)) [
      | inl e ↦ ap (λ t. are_lines least (at + 0) (cond t [] (span start at ∷ []))) e
      | inr e ↦ ap (λ t. are_lines least (at + 0) (cond t [] (span start at ∷ []))) e ∙ cons-are_lines least (at + 0) (span start at) [] a b (omega arith) refl
    ]
spans_from-are_lines least start at cr (u ∷ us) a b c =
    let n = at + suc (length us) in
    let e = cond cr (at - 1) at in
    let now = span start e ∷ spans_from (at + 1) false (at + 1) us in
    let later = spans_from start (u == 13) (at + 1) us in
    let size : at + 1 + length us ≡ n = omega arith in
    elim (cases_Bool (u == 10)) [
      | inl yes_ ↦
          let o = end_order start at cr b c in
          let low = o.0 in
          let high = o.1 in
          let rest = spans_from-are_lines (e + 1) (at + 1) (at + 1) false us (omega arith) (omega arith) (λ f. cc) in
          ap (λ t. are_lines least n (cond t now later)) yes_
          ∙ cons-are_lines least n (span start e) (spans_from (at + 1) false (at + 1) us) a low (omega arith) (ap (λ m. are_lines (e + 1) m (spans_from (at + 1) false (at + 1) us)) (sym size) ∙ rest)
      | inr no_ ↦
          ap (λ t. are_lines least n (cond t now later)) no_
          ∙ ap (λ m. are_lines least m later) (sym size) ∙ spans_from-are_lines least start (at + 1) (u == 13) us a (omega arith) (λ f. omega arith)
    ]

-- there is at most one line more than units
pub length-spans_from : (start at : ℕ) (cr : Bool) (us : List ℕ) → length (spans_from start cr at us) ≤ length us + 1
length-spans_from start at cr [] =
    elim (start == at) as (λ t. length (cond t [] (span start at ∷ [])) ≤ 0 + 1) [ true ↦ omega arith | false ↦ omega arith ]
length-spans_from start at cr (u ∷ us) =
    elim (u == 10) as (λ t. length (cond t (span start (cond cr (at - 1) at) ∷ spans_from (at + 1) false (at + 1) us) (spans_from start (u == 13) (at + 1) us)) ≤ suc (length us) + 1) [
      | true ↦ let r = length-spans_from (at + 1) (at + 1) false us in omega arith
      | false ↦ let r = length-spans_from start (at + 1) (u == 13) us in omega arith
    ]

-- the lines of lengths
pub lines_of_lengths-are_lines : (least start all : ℕ) (lengths : List ℕ) → least ≤ start → start + (sum lengths + length lengths) ≤ all + 1
    → are_lines least all (lines_of_lengths start lengths) ≡ true
lines_of_lengths-are_lines least start all [] a b = refl
lines_of_lengths-are_lines least start all (n ∷ lengths) a b =
    let s = sum_by-cons (λ (x : ℕ). x) n lengths in
    cons-are_lines least all (span start (start + n)) (lines_of_lengths (start + n + 1) lengths) a (omega arith) (omega arith)
    (lines_of_lengths-are_lines (start + n + 1) (start + n + 1) all lengths (omega arith) (omega arith))

pub length-lines_of_lengths : (start : ℕ) (lengths : List ℕ) → length (lines_of_lengths start lengths) ≡ length lengths
length-lines_of_lengths start [] = refl
length-lines_of_lengths start (n ∷ lengths) = ap suc (length-lines_of_lengths (start + n + 1) lengths)

-- the first line that is found begins where the open line does
pub spans_from-first : (at : ℕ) (cr : Bool) (us : List ℕ) → begins_with_text (spans_from 0 cr at us) ≡ true
spans_from-first at cr [] = elim (0 == at) as (λ t. begins_with_text (cond t [] (span 0 at ∷ [])) ≡ true) [ true ↦ refl | false ↦ refl ]
spans_from-first at cr (u ∷ us) =
    elim (u == 10) as (λ t. begins_with_text (cond t (span 0 (cond cr (at - 1) at) ∷ spans_from (at + 1) false (at + 1) us) (spans_from 0 (u == 13) (at + 1) us)) ≡ true) [
      | true ↦ refl
      | false ↦ spans_from-first (at + 1) (u == 13) us
    ]

pub lines_of_lengths-first : (lengths : List ℕ) → begins_with_text (lines_of_lengths 0 lengths) ≡ true
lines_of_lengths-first [] = refl
lines_of_lengths-first (n ∷ lengths) = refl
