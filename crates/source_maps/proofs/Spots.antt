-- The order of spots, as numbers.
use Rattle.std.proofs.Common.{◌≡◌, ℕ, ◌<◌, ◌≤◌, true, false, cond, sym, ap, ◌∙◌, arith, inl, inr, ◌⊎◌}
use Rattle.std.specs.Prelude.{◌==◌}
use Rattle.std.specs.Cmp.{IsStrictWeakOrder}
use Rattle.std.specs.Ordering.{is_lt, nat_cmp, ordering_then}
use Rattle.std.specs.declared.cmp.Ordering.{Ordering}
use Rattle.std.specs.declared.cmp.Ordering.TheVariants.{Less, Equal, Greater}
use Rattle.std.proofs.lemmas.Bool.{cases_lt, lt-ltb}
use Rattle.std.proofs.lemmas.Bool.Decides.{nat_tests}
use Rattle.source_maps.specs.declared.map.MapSegment.{MapSegment}
use Rattle.source_maps.specs.At.{is_earlier}

-- a begins at a spot no later than b
abbrev pub ComesBy : MapSegment → MapSegment → Type 0
ComesBy a b = (a.line < b.line) ⊎ ((a.line ≡ b.line) × (a.column ≤ b.column))

-- a begins at an earlier spot
abbrev pub ComesBefore : MapSegment → MapSegment → Type 0
ComesBefore a b = (a.line < b.line) ⊎ ((a.line ≡ b.line) × (a.column < b.column))

cmp_lt : (x y : ℕ) → x < y → nat_cmp x y ≡ Less
cmp_lt x y lt = ap (λ t. cond t Less (cond (x == y) Equal Greater)) (lt-ltb x y lt)

cmp_eq : (x y : ℕ) → x ≡ y → nat_cmp x y ≡ Equal
cmp_eq x y e = grind (arith, nat_tests)

cmp_gt : (x y : ℕ) → y < x → nat_cmp x y ≡ Greater
cmp_gt x y lt = grind (arith, nat_tests)

then_is : (a b : MapSegment) (o p : Ordering) → nat_cmp a.line b.line ≡ o → nat_cmp a.column b.column ≡ p → is_earlier a b ≡ is_lt (ordering_then o p)
then_is a b o p e f = λ i. is_lt (ordering_then (e i) (f i))

-- which it is, and what the test says of it
pub order : (a b : MapSegment) → ((is_earlier a b ≡ true) × ComesBefore a b) ⊎ ((is_earlier a b ≡ false) × ComesBy b a)
order a b =
    elim (cases_lt a.line b.line) [
      | inl lt ↦ inl (ap (λ o. is_lt (ordering_then o (nat_cmp a.column b.column))) (cmp_lt a.line b.line lt), inl lt)
      | inr le ↦
          elim (cases_lt b.line a.line) [
            | inl gt ↦ inr (ap (λ o. is_lt (ordering_then o (nat_cmp a.column b.column))) (cmp_gt a.line b.line gt), inl gt)
            | inr ge ↦
                let same : a.line ≡ b.line = omega arith in
                let here : is_earlier a b ≡ is_lt (nat_cmp a.column b.column) = ap (λ o. is_lt (ordering_then o (nat_cmp a.column b.column))) (cmp_eq a.line b.line same) in
                elim (cases_lt a.column b.column) [
                  | inl lt ↦ inl (here ∙ ap is_lt (cmp_lt a.column b.column lt), inr (same, lt))
                  | inr le ↦
                      elim (cases_lt b.column a.column) [
                        | inl gt ↦ inr (here ∙ ap is_lt (cmp_gt a.column b.column gt), inr (sym same, le))
                        | inr ge ↦ inr (here ∙ ap is_lt (cmp_eq a.column b.column (omega arith)), inr (sym same, le))
                      ]
                ]
          ]
    ]

clash : {A : Type 0} → true ≡ false → A
clash e = cc

pub not_earlier : (a b : MapSegment) → is_earlier a b ≡ false → ComesBy b a
not_earlier a b e = elim (order a b) [ inl yes_ ↦ clash (sym yes_.0 ∙ e) | inr no_ ↦ no_.1 ]

pub is_earlier_then : (a b : MapSegment) → is_earlier a b ≡ true → ComesBefore a b
is_earlier_then a b e = elim (order a b) [ inl yes_ ↦ yes_.1 | inr no_ ↦ clash (sym e ∙ no_.0) ]

by_not_before : (a b : MapSegment) → ComesBy b a → is_earlier a b ≡ false
by_not_before a b by = elim (order a b) [
  | inl yes_ ↦ elim yes_.1 [ inl lt ↦ elim by [ inl lt2 ↦ absurd (omega arith) | inr s ↦ let e = s.0 in absurd (omega arith) ] | inr s ↦ let e = s.0 in let f = s.1 in elim by [ inl lt2 ↦ absurd (omega arith) | inr t ↦ let g = t.0 in let h = t.1 in absurd (omega arith) ] ]
  | inr no_ ↦ no_.0
]

by_chain : (a b c : MapSegment) → ComesBy a b → ComesBy b c → ComesBy a c
by_chain a b c (inl l) (inl m) = inl (omega arith)
by_chain a b c (inl l) (inr m) = let e = m.0 in inl (omega arith)
by_chain a b c (inr l) (inl m) = let e = l.0 in inl (omega arith)
by_chain a b c (inr l) (inr m) = let e = l.0 in let f = l.1 in let g = m.0 in let h = m.1 in inr (omega arith, omega arith)

before_by : (a b : MapSegment) → ComesBefore a b → ComesBy a b
before_by a b (inl l) = inl l
before_by a b (inr l) = let e = l.0 in let f = l.1 in inr (e, omega arith)

-- spots are in an order
pub spots_order : IsStrictWeakOrder is_earlier
spots_order = record {
  one_way = λ x y e. by_not_before y x (before_by x y (is_earlier_then x y e));
  chain = λ x y z e f. by_not_before x z (by_chain z y x (not_earlier y z f) (not_earlier x y e));
}
