-- No text that spells the same lines is shorter than the one that is written.
use Rattle.std.proofs.Common.{◌≡◌, ℕ, zero, suc, ◌+◌, ◌*◌, ◌-◌, ◌/◌, ◌<◌, ◌≤◌, ◌^◌, Bool, true, false, cond, List, [], ◌∷◌, ◌++◌, length, refl, ap, inl, inr, arith}
use Rattle.std.specs.Prelude.{Option, None, Some}
use Rattle.std.specs.List.{join_with_byte, slice_split, onto_first}
use Rattle.std.proofs.Math.Nat.{pow-suc}
use Rattle.std.proofs.lemmas.List.{length-append}
use Rattle.std.proofs.lemmas.Bool.{cases_lt, lt-ltb, le-ltb}
use Rattle.vlq_mappings.specs.declared.Origin.{Origin}
use Rattle.vlq_mappings.specs.declared.Segment.{Segment}
use Rattle.vlq_mappings.specs.declared.last.Last.{Last}
use Rattle.vlq_mappings.specs.Digits.{Spells}
use Rattle.vlq_mappings.specs.Mappings.{start, next_line, is_comma, is_semicolon}
use Rattle.vlq_mappings.specs.Grammar.{Leads, LeadsToEach, SpellsSegment, SpellsLine, SpellsLines, SpellsMappings, numbers, origin_numbers, name_numbers, last_numbers, behind, behind_line}
use Rattle.vlq_mappings.specs.Written.{spelled_in, spelled, step, name_text, origins_text, segment_text, segment_texts, line_texts, written}
use Rattle.vlq_mappings.proofs.Spelled.{positive}
use Rattle.vlq_mappings.proofs.Back.{falls_to, rises_to}

-- ---- whole numbers and steps

whole_short : (front : List ℕ) (k whole : ℕ) → Spells front whole → whole < 32 ^ k → 0 < k → length (spelled_in k whole) ≤ length front
unfolding spelled_in
whole_short [] k whole h few some = absurd h
whole_short (b ∷ bs) zero whole h few some = absurd (omega arith)
whole_short (b ∷ []) (suc k) whole h few some = rw (lt-ltb whole 32 h.0) (omega arith)
whole_short (b ∷ c ∷ bs) (suc k) whole h few some =
    elim (cases_lt whole 32) [
      | inl small ↦ rw (lt-ltb whole 32 small) (omega arith)
      | inr big ↦
          let e = pow-suc 32 k in
          let rest : whole / 32 ≡ h.1 = omega (arith, h.4, h.2) in
          let high : h.1 < 32 ^ k = omega (arith, h.4, h.2) in
          let ih = whole_short (c ∷ bs) k h.1 h.5 high (positive k h.1 high (omega (arith, h.4, h.2))) in
          rw (le-ltb whole 32 big, rest) (omega arith)
    ]

some_digit : (front : List ℕ) (whole : ℕ) → Spells front whole → 1 ≤ length front
some_digit [] whole h = absurd h
some_digit (b ∷ bs) whole h = omega arith

one_digit : length (spelled 0) ≡ 1
unfolding spelled_in
one_digit = refl

seven_short : (front : List ℕ) (whole : ℕ) → whole < 2 ^ 32 → Spells front whole → length (spelled whole) ≤ length front
seven_short front whole lt h = whole_short front 7 whole h (omega arith) (omega arith)

step_short : (last n : ℕ) (front : List ℕ) → Leads last front n → length (spelled (step last n)) ≤ length front
step_short last n front h =
    elim h.3 [
      | inl up ↦
          let size : 2 * (n - last) ≡ 2 * h.0 = omega (arith, up.1) in
          rw (rises_to last n (omega (arith, up.1)), size) (seven_short front (2 * h.0) (omega (arith, h.1)) up.0)
      | inr down ↦
          elim (cases_lt n last) [
            | inl lt ↦
                let size : 2 * (last - n) + 1 ≡ 2 * h.0 + 1 = omega (arith, down.1) in
                rw (falls_to last n lt, size) (seven_short front (2 * h.0 + 1) (omega (arith, h.1)) down.0)
            | inr le ↦
                let none : 2 * (n - last) ≡ 0 = omega (arith, down.1) in
                rw (rises_to last n le, none, one_digit) (some_digit front (2 * h.0 + 1) down.0)
          ]
    ]

-- ---- segments

abbrev steps_length : List ℕ → List ℕ → ℕ
steps_length lasts [] = 0
steps_length [] (n ∷ ns) = 0
steps_length (last ∷ lasts) (n ∷ ns) = length (spelled (step last n)) + steps_length lasts ns

each_short : (lasts bytes ns : List ℕ) → LeadsToEach lasts bytes ns → steps_length lasts ns ≤ length bytes
each_short lasts bytes [] h = omega arith
each_short [] bytes (n ∷ ns) h = absurd h
each_short (last ∷ lasts) bytes (n ∷ ns) h =
    let first = step_short last n h.0 h.3 in
    let rest = each_short lasts h.1 ns h.4 in
    omega (arith, ap length h.2, length-append h.0 h.1, first, rest)

name_length : (last : ℕ) (name : Option ℕ) → length (name_text last name) ≡ steps_length (last ∷ []) (name_numbers name)
name_length last None = refl
name_length last (Some n) = omega arith

origins_length : (last : Last) (o : Option Origin) → length (origins_text last o) ≡ steps_length (last.source ∷ last.line ∷ last.original ∷ last.name ∷ []) (origin_numbers o)
origins_length last None = refl
origins_length last (Some o) =
    let name = name_length last.name o.name in
    let a = spelled (step last.source o.source) in
    let b = spelled (step last.line o.line) in
    let d = spelled (step last.original o.column) in
    let n = name_text last.name o.name in
    omega (arith, name, length-append a (b ++ (d ++ n)), length-append b (d ++ n), length-append d n)

segment_short : (last : Last) (bytes : List ℕ) (s : Segment) → SpellsSegment last bytes s → length (segment_text last s) ≤ length bytes
segment_short last bytes s h =
    let each = each_short (last_numbers last) bytes (numbers s) h in
    omega (arith, each, length-append (spelled (step last.column s.column)) (origins_text last s.origin), origins_length last s.origin)

-- ---- lists of texts, each with a mark

abbrev sized : List (List ℕ) → ℕ
sized [] = 0
sized (text ∷ texts) = length text + 1 + sized texts

length_joined : (c : ℕ) (text : List ℕ) (texts : List (List ℕ)) → length (join_with_byte c (text ∷ texts)) + 1 ≡ sized (text ∷ texts)
length_joined c text [] = omega arith
length_joined c text (next ∷ texts) =
    omega (arith, length-append text (c ∷ join_with_byte c (next ∷ texts)), length_joined c next texts)

sized_onto : (b : ℕ) (parts : List (List ℕ)) → 1 ≤ sized parts → sized (onto_first b parts) ≡ sized parts + 1
sized_onto b [] some = absurd (omega arith)
sized_onto b (part ∷ parts) some = omega arith

length_cut : (p : ℕ → Bool) (text : List ℕ) → sized (slice_split p text) ≡ length text + 1
length_cut p [] = omega arith
length_cut p (b ∷ bs) =
    let ih = length_cut p bs in
    elim (p b) as (λ t. sized (cond t ([] ∷ slice_split p bs) (onto_first b (slice_split p bs))) ≡ suc (length bs) + 1) [
      | true ↦ omega arith
      | false ↦ omega (arith, sized_onto b (slice_split p bs) (omega arith))
    ]

-- joined texts are no longer than a text whose pieces are no smaller
within : (p : ℕ → Bool) (c : ℕ) (texts : List (List ℕ)) (other : List ℕ) → sized texts ≤ sized (slice_split p other) → length (join_with_byte c texts) ≤ length other
within p c [] other h = omega arith
within p c (text ∷ texts) other h = omega (arith, length_cut p other, length_joined c text texts)

line_short : (last : Last) (pieces : List (List ℕ)) (segments : List Segment) → SpellsLine last pieces segments → sized (segment_texts last segments) ≤ sized pieces
line_short last [] [] h = omega arith
line_short last [] (s ∷ segments) h = absurd h
line_short last ([] ∷ pieces) [] h = omega arith
line_short last ([] ∷ pieces) (s ∷ segments) h = let ih = line_short last pieces (s ∷ segments) h in omega arith
line_short last ((b ∷ bs) ∷ pieces) [] h = absurd h
line_short last ((b ∷ bs) ∷ pieces) (s ∷ segments) h =
    let first = segment_short last (b ∷ bs) s h.0 in
    let rest = line_short (behind last s) pieces segments h.1 in
    omega arith

lines_short : (last : Last) (texts : List (List ℕ)) (lines : List (List Segment)) → SpellsLines last texts lines → sized (line_texts last lines) ≤ sized texts
lines_short last [] [] h = omega arith
lines_short last [] (line ∷ lines) h = absurd h
lines_short last (text ∷ texts) [] h = absurd h
lines_short last (text ∷ texts) (line ∷ lines) h =
    let first = within is_comma 44 (segment_texts last line) text (line_short last (slice_split is_comma text) line h.0) in
    let rest = lines_short (next_line (behind_line last line)) texts lines h.1 in
    omega arith

pub shortest_of : (lines : List (List Segment)) (other : List ℕ) → SpellsMappings other lines → length (written lines) ≤ length other
unfolding written
shortest_of lines other h = within is_semicolon 59 (line_texts start lines) other (lines_short start (slice_split is_semicolon other) lines h)
