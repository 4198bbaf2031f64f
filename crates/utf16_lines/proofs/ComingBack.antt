-- Offsets and spots come back from each other.
use Rattle.std.proofs.Common.{◌≡◌, ℕ, ◌+◌, ◌-◌, ◌<◌, ◌≤◌, true, cond, List, sym, ap, ◌∙◌, arith, inl, inr}
use Rattle.std.specs.Prelude.{None, Some, slice_get, option_and_then, option_map, nat_le}
use Rattle.std.proofs.lemmas.Bool.{cases_lt, le-ltb, le-leb, lt-leb}
use Rattle.std.proofs.lemmas.Option.{same_Some, none-some, slice_get_cases}
use Rattle.utf16_lines.specs.declared.Span.{Span}
use Rattle.utf16_lines.specs.declared.Spot.{Spot}
use Rattle.utf16_lines.specs.Table.{Table, IsTable, are_lines}
use Rattle.utf16_lines.specs.Lines.{place, offset, place_of, offset_of, line_at, column_in}
use Rattle.utf16_lines.specs.Laws.{OffsetComesBack, SpotComesBack}
use Rattle.utf16_lines.proofs.Tables.{stands, rising}
use Rattle.utf16_lines.proofs.Places.{line_at-last}

abbrev spot_of : ℕ × Span → ℕ → Spot
spot_of at o = record { line = at.0; column = column_in at.1 o }

-- the line of an offset within it
line_at-within : (all : ℕ) (spans : List Span) (line : ℕ) (s : Span) (o : ℕ) → are_lines 0 all spans ≡ true → slice_get spans line ≡ Some s
    → s.start ≤ o → o ≤ s.end → line_at spans o ≡ Some (line, s)
line_at-within all spans line s o e at low high =
    line_at-last o spans line s at (le-leb s.start o low)
    (λ j t there lt. let r = rising 0 all spans line j s t e at there lt in lt-leb t.start o (omega arith))

-- its spot
place-within : (all : ℕ) (spans : List Span) (line : ℕ) (s : Span) (o : ℕ) → are_lines 0 all spans ≡ true → slice_get spans line ≡ Some s
    → s.start ≤ o → o ≤ s.end → place_of all spans o ≡ Some (record { line = line; column = o - s.start })
place-within all spans line s o e at low high =
    let st = stands 0 all spans line s e at in
    let w = st.within in
    let column : column_in s o ≡ o - s.start = omega arith in
    ap (λ t. cond t None (option_map (λ found. spot_of found o) (line_at spans o))) (le-ltb all o (omega arith))
    ∙ ap (option_map (λ found. spot_of found o)) (line_at-within all spans line s o e at low high)
    ∙ (λ i. Some (record { line = line; column = column i }))

-- the offset of a spot whose line is known
offset-known : (spans : List Span) (spot : Spot) (s : Span) → slice_get spans spot.line ≡ Some s → spot.column ≤ s.end - s.start → offset_of spans spot ≡ Some (s.start + spot.column)
offset-known spans spot s at le =
    ap (option_and_then (λ (t : Span). cond (nat_le spot.column (t.end - t.start)) (Some (t.start + spot.column)) None)) at
    ∙ ap (λ b. cond b (Some (s.start + spot.column)) None) (le-leb spot.column (s.end - s.start) le)

pub offset_comes_back : OffsetComesBack
offset_comes_back table is line s at o low high =
    let sum_ : s.start + (o - s.start) ≡ o = omega arith in
    ap (option_and_then (λ spot. offset table spot)) (place-within table.units table.spans line s o is.lines at low high)
    ∙ offset-known table.spans (record { line = line; column = o - s.start }) s at (omega arith)
    ∙ ap (λ n. Some n) sum_

-- a spot of a line that is known
spot-known : (table : Table) → IsTable table.spans table.units → (spot : Spot) (s : Span) (o : ℕ) → slice_get table.spans spot.line ≡ Some s
    → spot.column ≤ s.end - s.start → offset table spot ≡ Some o → place table o ≡ Some spot
spot-known table is spot s o at le found =
    let st = stands 0 table.units table.spans spot.line s is.lines at in
    let order = st.order in
    let there : s.start + spot.column ≡ o = same_Some _ _ (sym (offset-known table.spans spot s at le) ∙ found) in
    let column : o - s.start ≡ spot.column = omega arith in
    place-within table.units table.spans spot.line s o is.lines at (omega arith) (omega arith)
    ∙ (λ i. Some (record { line = spot.line; column = column i }))

-- no spot of a line that isn't there has an offset
offset-past : (spans : List Span) (spot : Spot) → slice_get spans spot.line ≡ None → offset_of spans spot ≡ None
offset-past spans spot at = ap (option_and_then (λ (t : Span). cond (nat_le spot.column (t.end - t.start)) (Some (t.start + spot.column)) None)) at

-- nor has one behind the end of its line
offset-behind : (spans : List Span) (spot : Spot) (s : Span) → slice_get spans spot.line ≡ Some s → s.end - s.start < spot.column → offset_of spans spot ≡ None
offset-behind spans spot s at lt =
    ap (option_and_then (λ (t : Span). cond (nat_le spot.column (t.end - t.start)) (Some (t.start + spot.column)) None)) at
    ∙ ap (λ b. cond b (Some (s.start + spot.column)) None) (lt-leb spot.column (s.end - s.start) lt)

pub spot_comes_back : SpotComesBack
spot_comes_back table is spot o found =
    elim (slice_get_cases table.spans spot.line).1 [
      | inl there ↦
          elim (cases_lt (there.0.end - there.0.start) spot.column) [
            | inl lt ↦ absurd (none-some o (sym (offset-behind table.spans spot there.0 there.2 lt) ∙ found))
            | inr le ↦ spot-known table is spot there.0 o there.2 le found
          ]
      | inr past ↦ absurd (none-some o (sym (offset-past table.spans spot past.1) ∙ found))
    ]
