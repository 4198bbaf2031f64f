-- What the scans find is a table, and the one of the definition.
use Rattle.std.proofs.Common.{◌≡◌, ℕ, ◌+◌, ◌*◌, ◌<◌, ◌≤◌, true, false, cond, List, [], ◌∷◌, length, sym, ap, ◌∙◌, subst, subst₂, arith}
use Rattle.std.specs.Prelude.{Option, None, Some, Err, nat_lt}
use Rattle.std.specs.Str.{IsUtf8}
use Rattle.std.proofs.lemmas.Bool.{lt-ltb, le-ltb}
use Rattle.cov_text.specs.Listing.{max_text}
use Rattle.utf16_lines.specs.declared.Span.{Span}
use Rattle.utf16_lines.specs.Table.{Table, IsTable, are_lines}
use Rattle.utf16_lines.specs.Lines.{units, lines, spans_from, table_of, table_of_lengths, lines_of_lengths, units_of_lengths, most_units}
use Rattle.utf16_lines.specs.declared.LengthFault.{LengthFault}
use Rattle.utf16_lines.specs.declared.LengthFault.TheVariants.{TooLong, NoMemory}
use Rattle.utf16_lines.specs.Gives.{GivesTable}
use Rattle.utf16_lines.specs.Scan.{units_at, units_in, scanned, IsScanOfLengths}
use Rattle.utf16_lines.proofs.Scanned.{scanned-lines, units_in-units}
use Rattle.utf16_lines.proofs.Tables.{spans_from-first, lines_of_lengths-first, spans_from-are_lines, length-spans_from, lines_of_lengths-are_lines, length-lines_of_lengths}

units_at-le : (b : ℕ) → units_at b ≤ 2
units_at-le b =
    elim (nat_lt b 128) as (λ t. cond t 1 (cond (nat_lt b 192) 0 (cond (nat_lt b 240) 1 2)) ≤ 2) [
      | true ↦ omega arith
      | false ↦
          elim (nat_lt b 192) as (λ t. cond t 0 (cond (nat_lt b 240) 1 2) ≤ 2) [
            | true ↦ omega arith
            | false ↦ elim (nat_lt b 240) as (λ t. cond t 1 2 ≤ 2) [ true ↦ omega arith | false ↦ omega arith ]
          ]
    ]

units_in-le : (bytes : List ℕ) → units_in bytes ≤ 2 * length bytes
units_in-le [] = omega arith
units_in-le (b ∷ bytes) = omega (arith, units_at-le b, units_in-le bytes)

text_table : (text : List ℕ) → IsUtf8 text → length text ≤ max_text → IsTable (lines text) (length (units text))
unfolding lines
text_table text utf8 small =
    let n = units_in-units text utf8 in
    let m = units_in-le text in
    let size : 0 + length (units text) ≡ length (units text) = omega arith in
    let l = length-spans_from 0 0 false (units text) in
    record {
      first = spans_from-first 0 false (units text);
      lines = ap (λ all. are_lines 0 all (spans_from 0 false 0 (units text))) (sym size) ∙ spans_from-are_lines 0 0 0 false (units text) (omega arith) (omega arith) (λ e. cc);
      fits = omega arith;
    }

-- what the scan of a text finds
pub text-made : (text bytes : List ℕ) (spans : List Span) (all : ℕ) → IsUtf8 text → length text ≤ max_text → bytes ≡ text
    → spans ≡ scanned 0 false 0 bytes → all ≡ units_in bytes → IsTable spans all
text-made text bytes spans all utf8 small same e n =
    subst₂ IsTable (sym (e ∙ ap (scanned 0 false 0) same ∙ scanned-lines text utf8)) (sym (n ∙ ap units_in same ∙ units_in-units text utf8)) (text_table text utf8 small)

pub text-table_of : (text bytes : List ℕ) (spans : List Span) (all : ℕ) → IsUtf8 text → bytes ≡ text
    → spans ≡ scanned 0 false 0 bytes → all ≡ units_in bytes → (let table : Table = record { spans = spans; units = all } in table) ≡ table_of text
unfolding table_of
text-table_of text bytes spans all utf8 same e n =
    let s = e ∙ ap (scanned 0 false 0) same ∙ scanned-lines text utf8 in
    let u = n ∙ ap units_in same ∙ units_in-units text utf8 in
    (λ i. record { spans = s i; units = u i })

-- what the lines of lengths are
pub lengths-made : (lengths : List ℕ) (spans : List Span) (all : ℕ) → spans ≡ lines_of_lengths 0 lengths → all ≡ units_of_lengths lengths → all ≤ most_units → IsTable spans all
lengths-made lengths spans all e n small =
    subst (λ l. IsTable l all) (sym e) (record {
      first = lines_of_lengths-first lengths;
      lines = lines_of_lengths-are_lines 0 0 all lengths (omega arith) (omega arith);
      fits = omega (arith, length-lines_of_lengths 0 lengths);
    })

pub lengths-table_of : (lengths : List ℕ) (spans : List Span) (all : ℕ) → spans ≡ lines_of_lengths 0 lengths → all ≡ units_of_lengths lengths → all ≤ most_units
    → table_of_lengths lengths ≡ Some (record { spans = spans; units = all })
unfolding table_of_lengths
lengths-table_of lengths spans all e n small =
    let some : Option Table = Some (record { spans = lines_of_lengths 0 lengths; units = units_of_lengths lengths }) in
    let m : units_of_lengths lengths ≤ most_units = omega arith in
    ap (λ t. cond t None some) (le-ltb most_units (units_of_lengths lengths) m) ∙ (λ i. Some (record { spans = sym e i; units = sym n i }))

pub lengths-too_many : (lengths : List ℕ) → most_units < units_of_lengths lengths → table_of_lengths lengths ≡ None
unfolding table_of_lengths
lengths-too_many lengths lt =
    let some : Option Table = Some (record { spans = lines_of_lengths 0 lengths; units = units_of_lengths lengths }) in
    ap (λ t. cond t None some) (lt-ltb most_units (units_of_lengths lengths) lt)

pub fault-given : (lengths : List ℕ) (fault : LengthFault) → IsScanOfLengths lengths (Err fault) → GivesTable (Err fault) (table_of_lengths lengths)
fault-given lengths TooLong lt = lengths-too_many lengths lt
fault-given lengths NoMemory any = tt
