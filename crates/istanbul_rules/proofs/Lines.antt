-- The lines of a table, and offsets, as stretches in order.
use Rattle.std.proofs.Common.{◌≡◌, ℕ, suc, ◌+◌, ◌<◌, ◌≤◌, Bool, true, false, cond, List, [], ◌∷◌, length, get_or, refl, sym, ap, subst, subst₂, arith, inl, inr, ◌⊎◌}
use Rattle.std.specs.Prelude.{map, slice_get, Option, Some, None, option_map, filter, nat_lt}
use Rattle.std.specs.List.Sorted.{IsNonDecreasing, IsNonDecreasingBy}
use Rattle.std.proofs.lemmas.Bool.{cases_lt}
use Rattle.std.proofs.lemmas.List.{get_or-map, length-map}
use Rattle.std.proofs.lemmas.Option.{slice_get-get_or, get_or_from_slice_get, same_Some}
use Rattle.utf16_lines.specs.declared.Span.{Span}
use Rattle.utf16_lines.specs.declared.Spot.{Spot}
use Rattle.utf16_lines.specs.Lines.{place, line_at, column_in, begins_by, numbered}
use Rattle.cov_text.specs.Listing.{last_of}
use Rattle.utf16_lines.specs.Table.{Table, IsTable, are_lines}
use Rattle.utf16_lines.proofs.Tables.{stands, rising, starts_rise}
use Rattle.cov_model.specs.declared.report.Range.{Range}
use Rattle.istanbul_rules.specs.declared.painting.Stretch.{Stretch}
use Rattle.istanbul_rules.specs.Painting.{stretch_of_line, stretch_at, count_over}
use Rattle.istanbul_rules.specs.Parts.{direct_line}

-- numbers that never fall, taken from the elements of a list that is given by another
pub rise-map : {A B : Type 0} (f : A → B) (n : B → ℕ) (xs : List A) (ys : List B) → ys ≡ map f xs → IsNonDecreasingBy (λ x. n (f x)) xs → (d : A) → IsNonDecreasingBy n ys
rise-map f n xs ys is rises d =
    subst (IsNonDecreasingBy n) (sym is) (λ i j e le lt.
    let same = length-map xs f in
    let at_i = get_or-map f xs i d e (omega arith) in
    let at_j = get_or-map f xs j d e (omega arith) in
    subst₂ (λ a b. n a ≤ n b) (sym at_i) (sym at_j) (rises i j d le (omega arith)))

-- the ends of a table's lines never fall
ends_rise : (least units : ℕ) (spans : List Span) → are_lines least units spans ≡ true → IsNonDecreasingBy (λ (s : Span). s.end) spans
ends_rise least units spans e i j d le lt =
    elim (cases_lt i j) [
      | inl below ↦
          let r = rising least units spans i j (get_or spans i d) (get_or spans j d) e (slice_get-get_or spans i d (omega arith)) (slice_get-get_or spans j d lt) below in
          let s = stands least units spans j (get_or spans j d) e (slice_get-get_or spans j d lt) in
          let o = s.order in
          omega arith
      | inr ge ↦ let same : i ≡ j = omega arith in subst (λ k. (get_or spans i d).end ≤ (get_or spans k d).end) same (omega arith)
    ]

abbrev pub nowhere : Span
nowhere = record { start = 0; end = 0 }

pub line_starts : (spans : List Span) (units : ℕ) (stretches : List Stretch) → IsTable spans units → stretches ≡ map stretch_of_line spans → IsNonDecreasingBy (λ (s : Stretch). s.start) stretches
line_starts spans units stretches table is = rise-map stretch_of_line (λ (s : Stretch). s.start) spans stretches is (starts_rise 0 units spans table.lines) nowhere

pub line_ends : (spans : List Span) (units : ℕ) (stretches : List Stretch) → IsTable spans units → stretches ≡ map stretch_of_line spans → IsNonDecreasingBy (λ (s : Stretch). s.end) stretches
line_ends spans units stretches table is = rise-map stretch_of_line (λ (s : Stretch). s.end) spans stretches is (ends_rise 0 units spans table.lines) nowhere

pub unit_starts : (offsets : List ℕ) (stretches : List Stretch) → IsNonDecreasing offsets → stretches ≡ map stretch_at offsets → IsNonDecreasingBy (λ (s : Stretch). s.start) stretches
unit_starts offsets stretches rises is = rise-map stretch_at (λ (s : Stretch). s.start) offsets stretches is rises 0

pub unit_ends : (offsets : List ℕ) (stretches : List Stretch) → IsNonDecreasing offsets → stretches ≡ map stretch_at offsets → IsNonDecreasingBy (λ (s : Stretch). s.end) stretches
unit_ends offsets stretches rises is =
    rise-map stretch_at (λ (s : Stretch). s.end) offsets stretches is (λ i j d le lt. let r = rises i j d le lt in omega arith) 0

-- the line at a place that is there
pub line_there : (spans : List Span) (i : ℕ) (s : Span) → Some s ≡ slice_get spans i → i < length spans → s ≡ get_or spans i nowhere
line_there spans i s at lt = sym (get_or_from_slice_get spans i s nowhere (sym at))

pub line_missing : {P : Type 0} (spans : List Span) (i : ℕ) → None ≡ slice_get spans i → i < length spans → P
line_missing spans i at lt = let there = slice_get-get_or spans i nowhere lt in cc

-- the counts of the lines are those of their stretches
pub direct_counts : (ranges : List Range) (spans : List Span) → map Some (map (count_over 1 ranges) (map stretch_of_line spans)) ≡ map (λ span. Some (direct_line ranges span)) spans
unfolding direct_line
direct_counts ranges [] = refl
direct_counts ranges (s ∷ spans) = ap (λ rest. Some (count_over 1 ranges (stretch_of_line s)) ∷ rest) (direct_counts ranges spans)

-- ---- the line of a place

last_cons : {A : Type 0} (x : A) (xs : List A) (y : A) → last_of (x ∷ xs) ≡ Some y → (x ≡ y) ⊎ (last_of xs ≡ Some y)
last_cons x [] y e = inl (same_Some x y e)
last_cons x (z ∷ zs) y e = inr e

last_numbered : (o k : ℕ) (spans : List Span) (at : ℕ × Span) → last_of (filter (λ at. begins_by o at.1) (numbered k spans)) ≡ Some at → at.0 < k + length spans
last_numbered o k [] at e = cc
last_numbered o k (s ∷ spans) at e =
    let rest = filter (λ at. begins_by o at.1) (numbered (suc k) spans) in
    let first : ℕ × Span = (k, s) in
    let later : last_of rest ≡ Some at → at.0 < k + suc (length spans) = λ is. let r = last_numbered o (suc k) spans at is in omega arith in
    let by : (t : Bool) → last_of (cond t (first ∷ rest) rest) ≡ Some at → at.0 < k + suc (length spans) = elim [
      | true ↦ λ is. elim (last_cons first rest at is) [
        | inl same ↦ let number : k ≡ at.0 = ap (λ (x : ℕ × Span). x.0) same in omega arith
        | inr is_later ↦ later is_later
      ]
      | false ↦ later
    ] in
    by (begins_by o s) e

spot_line : (o : ℕ) (n : ℕ) (found : Option (ℕ × Span)) (spot : Spot) → ((at : ℕ × Span) → found ≡ Some at → at.0 < n)
    → Some spot ≡ option_map (λ at. record { line = at.0; column = column_in at.1 o }) found → spot.line < n
spot_line o n None spot below e = cc
spot_line o n (Some at) spot below e =
    let line : spot.line ≡ at.0 = ap (λ (s : Spot). s.line) (same_Some spot (record { line = at.0; column = column_in at.1 o }) e) in
    let lt = below at refl in
    omega arith

-- a place is on a line of the table
pub place_line : (table : Table) (o : ℕ) (spot : Spot) → Some spot ≡ place table o → spot.line < length table.spans
place_line table o spot e =
    let below : (at : ℕ × Span) → line_at table.spans o ≡ Some at → at.0 < length table.spans = λ at is. let r = last_numbered o 0 table.spans at is in omega arith in
    let by : (t : Bool) → Some spot ≡ cond t None (option_map (λ at. record { line = at.0; column = column_in at.1 o }) (line_at table.spans o)) → spot.line < length table.spans = elim [
      | true ↦ λ is. cc
      | false ↦ λ is. spot_line o (length table.spans) (line_at table.spans o) spot below is
    ] in
    by (nat_lt table.units o) e
