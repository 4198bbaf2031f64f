-- What a search among the starts of a table's lines finds.
use Rattle.std.proofs.Common.{◌≡◌, ℕ, ◌-◌, ◌<◌, ◌≤◌, true, false, cond, List, [], ◌∷◌, length, refl, get_or, sym, ap, ◌∙◌, subst, arith, inl, inr, ◌⊎◌, ◌↔◌, le_trans, le_of_eq}
use Rattle.std.specs.Prelude.{Option, None, Some, IfSome, slice_get, option_map, nat_lt}
use Rattle.std.specs.List.Sorted.{IsPartitionPoint, IsNonDecreasingBy}
use Rattle.std.proofs.lemmas.Bool.{cases_lt, lt-ltb, le-ltb, le-leb, leb-true, eqb-true}
use Rattle.std.proofs.lemmas.Option.{slice_get-get_or, slice_get_within, get_or_from_slice_get, none-some}
use Rattle.utf16_lines.specs.declared.Span.{Span}
use Rattle.utf16_lines.specs.declared.Spot.{Spot}
use Rattle.utf16_lines.specs.Table.{Table, IsTable, are_lines}
use Rattle.utf16_lines.specs.Lines.{place, place_of, line_at, column_in, begins_by}
use Rattle.utf16_lines.proofs.Tables.{stands, starts_rise}
use Rattle.utf16_lines.proofs.Places.{line_at-last, line_at-none, line_at-some}

-- the lines before i begin by the offset, and those from i on don't
abbrev pub Splits : ℕ → List Span → ℕ → Type 0
Splits o spans i = IsPartitionPoint (λ s. begins_by o s ≡ true) (λ s. begins_by o s ≡ false) spans i

-- where a line stands, if it is there
pub line-within : (spans : List Span) (all i : ℕ) (table : Table) (found : Option Span) → (let inside : Table = record { spans = spans; units = all } in inside) ≡ table
    → IsTable spans all → found ≡ slice_get spans i → IfSome found (λ s. (s.start ≤ s.end) × (s.end ≤ table.units))
line-within spans all i table None is in_order at = tt
line-within spans all i table (Some s) is in_order at =
    let st = stands 0 all spans i s in_order.lines (sym at) in
    let e : all ≡ table.units = ap (λ (t : Table). t.units) is in
    (st.order, le_trans st.within (le_of_eq e))

-- the starts of a table's lines never fall
pub starts-in_order : (spans xs : List Span) (all : ℕ) → IsTable spans all → xs ≡ spans → IsNonDecreasingBy (λ (s : Span). s.start) xs
starts-in_order spans xs all is same = subst (IsNonDecreasingBy (λ (s : Span). s.start)) (sym same) (starts_rise 0 all spans is.lines)

from_i : (o : ℕ) (spans : List Span) (i : ℕ) → Splits o spans i → (j : ℕ) (t : Span) → slice_get spans j ≡ Some t → i ≤ j → begins_by o t ≡ false
from_i o spans i split j t at le =
    ap (begins_by o) (sym (get_or_from_slice_get spans j t t at)) ∙ split.1 j t le (slice_get_within spans j t at)

abbrev spot_at : ℕ → Option (ℕ × Span) → Option Spot
spot_at o found = option_map (λ at. record { line = at.0; column = column_in at.1 o }) found

place-at : (all o : ℕ) (spans : List Span) → o ≤ all → place_of all spans o ≡ spot_at o (line_at spans o)
place-at all o spans le = ap (λ t. cond t None (spot_at o (line_at spans o))) (le-ltb all o le)

-- no line begins by the offset
pub place-none : (spans xs : List Span) (all o i : ℕ) (table : Table) → (let inside : Table = record { spans = spans; units = all } in inside) ≡ table → xs ≡ spans
    → Splits o xs i → o ≤ all → i ≡ 0 → None ≡ place table o
place-none spans xs all o i table is same split le zero_ =
    let none = line_at-none o xs (λ j t at. from_i o xs i split j t at (omega arith)) in
    sym ((λ k. place (sym is k) o) ∙ place-at all o spans le ∙ (λ k. spot_at o (line_at (sym same k) o)) ∙ ap (spot_at o) none)

-- the last that does is the one before i
pub place-found : (spans xs : List Span) (all o i : ℕ) (d : Span) (table : Table) → (let inside : Table = record { spans = spans; units = all } in inside) ≡ table → xs ≡ spans
    → Splits o xs i → i ≤ length xs → o ≤ all → (i ≡ 0 → ⊥) → (column : ℕ) → column ≡ column_in (get_or xs (i - 1) d) o
    → Some (record { line = i - 1; column = column }) ≡ place table o
place-found spans xs all o i d table is same split fits le some column column_is =
    let n = i - 1 in
    let low : n < length xs = omega arith in
    let here = line_at-last o xs n (get_or xs n d) (slice_get-get_or xs n d low) (split.0 n d (omega arith) (omega arith)) (λ j t at lt. from_i o xs i split j t at (omega arith)) in
    sym ((λ k. place (sym is k) o) ∙ place-at all o spans le ∙ (λ k. spot_at o (line_at (sym same k) o)) ∙ ap (spot_at o) here
    ∙ (λ k. Some (record { line = n; column = sym column_is k })))

-- it begins by the offset, and ends no sooner than it begins
pub found-begun : (xs : List Span) (o i : ℕ) (d : Span) → Splits o xs i → (i ≡ 0 → ⊥) → (get_or xs (i - 1) d).start ≤ o
found-begun xs o i d split some = leb-true _ _ (split.0 (i - 1) d (omega arith) (omega arith))

pub found-order : (spans xs : List Span) (all i : ℕ) (d : Span) → IsTable spans all → xs ≡ spans → i ≤ length xs → (i ≡ 0 → ⊥)
    → (get_or xs (i - 1) d).start ≤ (get_or xs (i - 1) d).end
found-order spans xs all i d is same fits some =
    let e : are_lines 0 all xs ≡ true = ap (are_lines 0 all) same ∙ is.lines in
    (stands 0 all xs (i - 1) (get_or xs (i - 1) d) e (slice_get-get_or xs (i - 1) d (omega arith))).order

-- there is no place exactly past the units, or where there is no line
no_place : (all o : ℕ) (spans : List Span) → IsTable spans all → place_of all spans o ≡ None → (all < o) ⊎ (length spans ≡ 0)
no_place all o [] is none = inr refl
no_place all o (s ∷ spans) is none =
    elim (cases_lt all o) [
      | inl lt ↦ inl lt
      | inr le ↦
          let zero_ : s.start ≡ 0 = eqb-true s.start 0 is.first in
          let some = line_at-some o spans s (le-leb s.start o (omega arith)) in
          absurd (none-some _ (sym none ∙ place-at all o (s ∷ spans) le ∙ ap (spot_at o) some.1))
    ]

place-past : (all o : ℕ) (spans : List Span) → all < o → place_of all spans o ≡ None
place-past all o spans lt = ap (λ t. cond t None (spot_at o (line_at spans o))) (lt-ltb all o lt)

place-no_line : (all o : ℕ) (spans : List Span) → length spans ≡ 0 → place_of all spans o ≡ None
place-no_line all o [] e = elim (nat_lt all o) as (λ t. cond t None (spot_at o None) ≡ None) [ true ↦ refl | false ↦ refl ]
place-no_line all o (s ∷ spans) e = absurd (omega arith)

pub none-exactly : (spans : List Span) (all o : ℕ) (table : Table) (found : Option Spot) → (let inside : Table = record { spans = spans; units = all } in inside) ≡ table
    → IsTable spans all → found ≡ place table o → (found ≡ None) ↔ ((table.units < o) ⊎ (length table.spans ≡ 0))
none-exactly spans all o table found is in_order at =
    let here : found ≡ place_of all spans o = at ∙ (λ k. place (sym is k) o) in
    subst (λ (t : Table). (found ≡ None) ↔ ((t.units < o) ⊎ (length t.spans ≡ 0))) is (
      (λ e. no_place all o spans in_order (sym here ∙ e)),
      (λ w. here ∙ elim w [ inl lt ↦ place-past all o spans lt | inr e ↦ place-no_line all o spans e ]),
    )

pub place-past_units : (spans : List Span) (all o : ℕ) (table : Table) → (let inside : Table = record { spans = spans; units = all } in inside) ≡ table → all < o → None ≡ place table o
place-past_units spans all o table is lt = sym ((λ k. place (sym is k) o) ∙ place-past all o spans lt)
