-- What is spelled so is read.
use Rattle.std.proofs.Common.{◌≡◌, ℕ, ◌+◌, ◌*◌, ◌-◌, ◌/◌, ◌%◌, ◌<◌, ◌≤◌, true, false, List, [], ◌∷◌, ◌++◌, length, refl, sym, ap, ◌∙◌, inl, inr, arith}
use Rattle.std.specs.Prelude.{Option, None, Some, Result, Ok, Err, ◌==◌}
use Rattle.std.specs.List.{slice_split}
use Rattle.std.proofs.lemmas.Bool.{lt-ltb, le-ltb}
use Rattle.std.proofs.lemmas.Bool.Decides.{nat_tests}
use Rattle.vlq_mappings.specs.declared.Origin.{Origin}
use Rattle.vlq_mappings.specs.declared.Segment.{Segment}
use Rattle.vlq_mappings.specs.declared.VlqFault.{VlqFault}
use Rattle.vlq_mappings.specs.declared.VlqCause.TheVariants.{Digit}
use Rattle.vlq_mappings.specs.declared.values.Value.{Value}
use Rattle.vlq_mappings.specs.declared.last.Last.{Last}
use Rattle.vlq_mappings.specs.Faults.{◌>>=◌, or_fault, goes_on}
use Rattle.vlq_mappings.specs.Kept.{most}
use Rattle.vlq_mappings.specs.Digits.{Spells, value, values, with_digit}
use Rattle.vlq_mappings.specs.Pieces.{with_value}
use Rattle.vlq_mappings.specs.Mappings.{moved, segment_of, segment_at, segments_at, with_segment, lines_at, with_line, next_line, is_comma}
use Rattle.vlq_mappings.specs.Grammar.{Leads, LeadsToEach, SpellsSegment, SpellsLine, SpellsLines, numbers, origin_numbers, name_numbers, last_numbers, behind, behind_line}
use Rattle.vlq_mappings.proofs.Binds.{bind_ok}
use Rattle.vlq_mappings.proofs.Found.{AllMoved, step_falls, step_rises}

-- ---- values

last_digit : (place d : ℕ) (r : Result (List Value) VlqFault) → d < 32 → (r >>= with_digit place d) ≡ goes_on r (with_value (value place d))
last_digit place d (Err e) lt = refl
last_digit place d (Ok vs) lt = rw (lt-ltb d 32 lt) refl

more_digits : (place low whole next : ℕ) (r : Result (List Value) VlqFault)
    → (goes_on r (with_value (value next whole)) >>= with_digit place (low + 32)) ≡ goes_on r (with_value (value place (low + 32 * whole)))
more_digits place low whole next (Err e) = refl
more_digits place low whole next (Ok vs) =
    let e : low + 32 - 32 ≡ low = omega arith in
    rw (le-ltb (low + 32) 32 (omega arith), e) refl

-- the value at the front of the bytes
pub spelled_values : (front : List ℕ) (whole place : ℕ) (back : List ℕ) → Spells front whole
    → values place (front ++ back) ≡ goes_on (values (place + length front) back) (with_value (value place whole))
spelled_values [] whole place back h = absurd h
spelled_values (b ∷ []) whole place back h =
    ap (λ x. or_fault place Digit x >>= λ d. values (place + 1) back >>= with_digit place d) h.1
    ∙ last_digit place whole (values (place + 1) back) h.0
spelled_values (b ∷ c ∷ bs) whole place back h =
    let low = h.0 in
    let high = h.1 in
    let ih = spelled_values (c ∷ bs) high (place + 1) back h.5 in
    let e : place + 1 + length (c ∷ bs) ≡ place + length (b ∷ c ∷ bs) = omega arith in
    ap (λ x. or_fault place Digit x >>= λ d. values (place + 1) (c ∷ bs ++ back) >>= with_digit place d) h.3
    ∙ ap (λ r. r >>= with_digit place (low + 32)) ih
    ∙ more_digits place low high (place + 1) (values (place + 1 + length (c ∷ bs)) back)
    ∙ ap (λ n. goes_on (values n back) (with_value (value place (low + 32 * high)))) e
    ∙ ap (λ n. goes_on (values (place + length (b ∷ c ∷ bs)) back) (with_value (value place n))) (sym h.4)

-- ---- steps

pub record Moved (last : ℕ) (bytes : List ℕ) (n : ℕ) : Type 0 where
  pub whole : ℕ
  pub spells : Spells bytes whole
  pub then : (place : ℕ) → moved last (value place whole) ≡ Ok n

rising : (last size n place : ℕ) → size ≤ most → n ≤ most → n ≡ last + size → moved last (value place (2 * size)) ≡ Ok n
rising last size n place near fits e =
    let half : 2 * size / 2 ≡ size = omega arith in
    let even : (2 * size % 2 == 1) ≡ false = grind (arith, nat_tests) in
    step_rises last (value place (2 * size)) (omega arith) even (omega arith) ∙ ap (λ k. Ok k) (omega arith)

falling : (last size n place : ℕ) → size ≤ most → n + size ≡ last → moved last (value place (2 * size + 1)) ≡ Ok n
falling last size n place near e =
    let half : (2 * size + 1) / 2 ≡ size = omega arith in
    let odd : ((2 * size + 1) % 2 == 1) ≡ true = grind (arith, nat_tests) in
    step_falls last (value place (2 * size + 1)) (omega arith) odd (omega arith) ∙ ap (λ k. Ok k) (omega arith)

pub leads_moved : (last : ℕ) (bytes : List ℕ) (n : ℕ) → Leads last bytes n → Moved last bytes n
leads_moved last bytes n h =
    elim h.3 [
      | inl up ↦ record { whole = 2 * h.0; spells = up.0; then = λ place. rising last h.0 n place h.1 h.2 up.1 }
      | inr down ↦ record { whole = 2 * h.0 + 1; spells = down.0; then = λ place. falling last h.0 n place h.1 down.1 }
    ]

pub record EachAgain (place : ℕ) (lasts : List ℕ) (bytes : List ℕ) (ns : List ℕ) : Type 0 where
  pub all : List Value
  pub read : values place bytes ≡ Ok all
  pub all_moved : AllMoved lasts all ns

pub each_again : (place : ℕ) (lasts bytes ns : List ℕ) → LeadsToEach lasts bytes ns → EachAgain place lasts bytes ns
each_again place lasts bytes [] h = record { all = []; read = ap (values place) h; all_moved = tt }
each_again place [] bytes (n ∷ ns) h = absurd h
each_again place (last ∷ lasts) bytes (n ∷ ns) h =
    let m = leads_moved last h.0 n h.3 in
    let rest = each_again (place + length h.0) lasts h.1 ns h.4 in
    record {
      all = value place m.whole ∷ rest.all;
      read =
          ap (values place) h.2
          ∙ spelled_values h.0 m.whole place h.1 m.spells
          ∙ ap (λ r. goes_on r (with_value (value place m.whole))) rest.read;
      all_moved = (m.then place, rest.all_moved);
    }

-- ---- segments

one_again : (place : ℕ) (last : Last) (vs : List Value) (column : ℕ) → AllMoved (last_numbers last) vs (column ∷ [])
    → segment_of place last vs ≡ Ok (record { column = column; origin = None }, record last { column = column })
one_again place last [] column h = absurd h
one_again place last (c ∷ []) column h = bind_ok (moved last.column c) _ column h.0
one_again place last (c ∷ s ∷ vs) column h = absurd h.1

four_again : (place : ℕ) (last : Last) (vs : List Value) (column source line original : ℕ) → AllMoved (last_numbers last) vs (column ∷ source ∷ line ∷ original ∷ [])
    → segment_of place last vs
    ≡ Ok (
      record { column = column; origin = Some (record { source = source; line = line; column = original; name = None }) },
      record last { column = column; source = source; line = line; original = original },
    )
four_again place last [] column source line original h = absurd h
four_again place last (c ∷ []) column source line original h = absurd h.1
four_again place last (c ∷ s ∷ []) column source line original h = absurd h.1.1
four_again place last (c ∷ s ∷ l ∷ []) column source line original h = absurd h.1.1.1
four_again place last (c ∷ s ∷ l ∷ o ∷ []) column source line original h =
    bind_ok (moved last.column c) _ column h.0 ∙ bind_ok (moved last.source s) _ source h.1.0 ∙ bind_ok (moved last.line l) _ line h.1.1.0
    ∙ bind_ok (moved last.original o) _ original h.1.1.1.0
four_again place last (c ∷ s ∷ l ∷ o ∷ n ∷ vs) column source line original h = absurd h.1.1.1.1

five_again : (place : ℕ) (last : Last) (vs : List Value) (column source line original name : ℕ) → AllMoved (last_numbers last) vs (column ∷ source ∷ line ∷ original ∷ name ∷ [])
    → segment_of place last vs
    ≡ Ok (
      record { column = column; origin = Some (record { source = source; line = line; column = original; name = Some name }) },
      record { column = column; source = source; line = line; original = original; name = name },
    )
five_again place last [] column source line original name h = absurd h
five_again place last (c ∷ []) column source line original name h = absurd h.1
five_again place last (c ∷ s ∷ []) column source line original name h = absurd h.1.1
five_again place last (c ∷ s ∷ l ∷ []) column source line original name h = absurd h.1.1.1
five_again place last (c ∷ s ∷ l ∷ o ∷ []) column source line original name h = absurd h.1.1.1.1
five_again place last (c ∷ s ∷ l ∷ o ∷ n ∷ []) column source line original name h =
    bind_ok (moved last.column c) _ column h.0 ∙ bind_ok (moved last.source s) _ source h.1.0 ∙ bind_ok (moved last.line l) _ line h.1.1.0
    ∙ bind_ok (moved last.original o) _ original h.1.1.1.0 ∙ bind_ok (moved last.name n) _ name h.1.1.1.1.0
five_again place last (c ∷ s ∷ l ∷ o ∷ n ∷ x ∷ vs) column source line original name h = absurd h.1.1.1.1.1

named_again : (place : ℕ) (last : Last) (vs : List Value) (column source line original : ℕ) (name : Option ℕ)
    → AllMoved (last_numbers last) vs (column ∷ source ∷ line ∷ original ∷ name_numbers name)
    → let s : Segment = record { column = column; origin = Some (record { source = source; line = line; column = original; name = name }) } in segment_of place last vs ≡ Ok (s, behind last s)
named_again place last vs column source line original None h = four_again place last vs column source line original h
named_again place last vs column source line original (Some name) h = five_again place last vs column source line original name h

origin_again : (place : ℕ) (last : Last) (vs : List Value) (column : ℕ) (o : Option Origin) → AllMoved (last_numbers last) vs (column ∷ origin_numbers o)
    → let s : Segment = record { column = column; origin = o } in segment_of place last vs ≡ Ok (s, behind last s)
origin_again place last vs column None h = one_again place last vs column h
origin_again place last vs column (Some o) h = named_again place last vs column o.source o.line o.column o.name h

pub segment_again : (place : ℕ) (last : Last) (bytes : List ℕ) (s : Segment) → SpellsSegment last bytes s → segment_at place last bytes ≡ Ok (s, behind last s)
segment_again place last bytes s h =
    let each = each_again place (last_numbers last) bytes (numbers s) h in
    ap (λ r. r >>= segment_of place last) each.read ∙ origin_again place last each.all s.column s.origin each.all_moved

-- ---- lines

pub line_again : (place : ℕ) (last : Last) (pieces : List (List ℕ)) (segments : List Segment) → SpellsLine last pieces segments
    → segments_at place last pieces ≡ Ok (segments, behind_line last segments)
line_again place last [] [] h = refl
line_again place last [] (s ∷ segments) h = absurd h
line_again place last ([] ∷ pieces) [] h = line_again (place + 1) last pieces [] h
line_again place last ([] ∷ pieces) (s ∷ segments) h = line_again (place + 1) last pieces (s ∷ segments) h
line_again place last ((b ∷ bs) ∷ pieces) [] h = absurd h
line_again place last ((b ∷ bs) ∷ pieces) (s ∷ segments) h =
    ap (λ r. r >>= λ x. segments_at (place + length (b ∷ bs) + 1) x.1 pieces >>= with_segment x.0) (segment_again place last (b ∷ bs) s h.0)
    ∙ ap (λ r. r >>= with_segment s) (line_again (place + length (b ∷ bs) + 1) (behind last s) pieces segments h.1)

pub lines_again : (place : ℕ) (last : Last) (texts : List (List ℕ)) (lines : List (List Segment)) → SpellsLines last texts lines → lines_at place last texts ≡ Ok lines
lines_again place last [] [] h = refl
lines_again place last [] (line ∷ lines) h = absurd h
lines_again place last (text ∷ texts) [] h = absurd h
lines_again place last (text ∷ texts) (line ∷ lines) h =
    ap (λ r. r >>= λ s. lines_at (place + length text + 1) (next_line s.1) texts >>= with_line s.0) (line_again place last (slice_split is_comma text) line h.0)
    ∙ ap (λ r. r >>= with_line line) (lines_again (place + length text + 1) (next_line (behind_line last line)) texts lines h.1)
