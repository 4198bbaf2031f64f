-- What is written is spelled so.
use Rattle.std.proofs.Common.{◌≡◌, ℕ, zero, suc, ◌+◌, ◌*◌, ◌-◌, ◌/◌, ◌%◌, ◌<◌, ◌≤◌, ◌^◌, Bool, true, false, cond, List, [], ◌∷◌, ◌++◌, length, refl, sym, ap, subst, ◌∙◌, inl, inr, arith}
use Rattle.std.specs.Prelude.{Option, None, Some, nat_le}
use Rattle.std.specs.List.{join_with_byte, slice_split, onto_first, list_all}
use Rattle.std.proofs.Math.Nat.{pow-suc}
use Rattle.std.proofs.lemmas.List.{append-nil}
use Rattle.std.proofs.lemmas.Bool.{cases_lt, lt-ltb, le-ltb, leb-true, and_parts}
use Rattle.std.proofs.lemmas.Bool.Decides.{nat_tests}
use Rattle.vlq_mappings.specs.declared.Origin.{Origin}
use Rattle.vlq_mappings.specs.declared.Segment.{Segment}
use Rattle.vlq_mappings.specs.declared.last.Last.{Last}
use Rattle.vlq_mappings.specs.Kept.{most, is_near, origin_is_near, name_is_near, AreMappings}
use Rattle.vlq_mappings.specs.Digits.{digit, Spells}
use Rattle.vlq_mappings.specs.Mappings.{start, next_line, is_comma, is_semicolon}
use Rattle.vlq_mappings.specs.Grammar.{Leads, LeadsToEach, SpellsSegment, SpellsLine, SpellsLines, SpellsMappings, numbers, origin_numbers, name_numbers, last_numbers, behind, behind_line}
use Rattle.vlq_mappings.specs.Written.{glyph, spelled_in, spelled, step, name_text, origins_text, segment_text, segment_texts, line_texts, written}
use Rattle.vlq_mappings.proofs.Found.{AllNear}
use Rattle.vlq_mappings.proofs.FoundLines.{near_behind}

-- ---- digits

pub digit-glyph : (n : ℕ) → n < 64 → digit (glyph n) ≡ Some n
digit-glyph n lt = grind (arith, nat_tests)

-- neither mark is a digit
pub glyph_apart : (n : ℕ) → n < 64 → (is_comma (glyph n) ≡ false) × (is_semicolon (glyph n) ≡ false)
glyph_apart n lt = (grind (arith, nat_tests), grind (arith, nat_tests))

-- ---- whole numbers and steps

before : (b low : ℕ) (front : List ℕ) (high : ℕ) → low < 32 → digit b ≡ Some (low + 32) → Spells front high → Spells (b ∷ front) (low + 32 * high)
before b low [] high lt worth h = absurd h
before b low (c ∷ cs) high lt worth h = (low, high, lt, worth, refl, h)

positive : (k w : ℕ) → w < 32 ^ k → 1 ≤ w → 0 < k
positive zero w lt some = absurd (omega arith)
positive (suc k) w lt some = omega arith

pub spelled_spells : (k w : ℕ) → w < 32 ^ k → 0 < k → Spells (spelled_in k w) w
unfolding spelled_in
spelled_spells zero w lt some = absurd (omega arith)
spelled_spells (suc k) w lt some =
    elim (cases_lt w 32) [
      | inl small ↦ rw (lt-ltb w 32 small) (small, digit-glyph w (omega arith))
      | inr big ↦
          let e = pow-suc 32 k in
          let few : w / 32 < 32 ^ k = omega arith in
          let rest = spelled_spells k (w / 32) few (positive k (w / 32) few (omega arith)) in
          let order : 32 + w % 32 ≡ w % 32 + 32 = omega arith in
          let worth : digit (glyph (32 + w % 32)) ≡ Some (w % 32 + 32) = digit-glyph (32 + w % 32) (omega arith) ∙ ap (λ n. Some n) order in
          let whole : w % 32 + 32 * (w / 32) ≡ w = omega arith in
          let text = glyph (32 + w % 32) ∷ spelled_in k (w / 32) in
          rw (le-ltb w 32 big) (subst (Spells text) whole (before (glyph (32 + w % 32)) (w % 32) (spelled_in k (w / 32)) (w / 32) (omega arith) worth rest))
    ]

pub falls_to : (last n : ℕ) → n < last → step last n ≡ 2 * (last - n) + 1
falls_to last n lt = rw (lt-ltb n last lt) refl

pub rises_to : (last n : ℕ) → last ≤ n → step last n ≡ 2 * (n - last)
rises_to last n le = rw (le-ltb n last le) refl

seven : (w : ℕ) → w < 2 ^ 32 → Spells (spelled w) w
seven w lt = spelled_spells 7 w (omega arith) (omega arith)

pub step_leads : (last n : ℕ) → last ≤ most → n ≤ most → Leads last (spelled (step last n)) n
step_leads last n old new =
    elim (cases_lt n last) [
      | inl lt ↦ rw (falls_to last n lt) (last - n, omega arith, new, inr (seven (2 * (last - n) + 1) (omega arith), omega arith))
      | inr le ↦ rw (rises_to last n le) (n - last, omega arith, new, inl (seven (2 * (n - last)) (omega arith), omega arith))
    ]

-- ---- segments

name_leads : (last : ℕ) (name : Option ℕ) → last ≤ most → AllNear (name_numbers name) → LeadsToEach (last ∷ []) (name_text last name) (name_numbers name)
name_leads last None old new = refl
name_leads last (Some n) old new = (spelled (step last n), [], sym (append-nil (spelled (step last n))), step_leads last n old new.0, refl)

origins_lead : (last : Last) (o : Option Origin) → AllNear (last_numbers last) → AllNear (origin_numbers o)
    → LeadsToEach (last.source ∷ last.line ∷ last.original ∷ last.name ∷ []) (origins_text last o) (origin_numbers o)
origins_lead last None old new = refl
origins_lead last (Some o) old new = (
  spelled (step last.source o.source),
  spelled (step last.line o.line) ++ (spelled (step last.original o.column) ++ name_text last.name o.name),
  refl,
  step_leads last.source o.source old.1.0 new.0,
  (
    spelled (step last.line o.line),
    spelled (step last.original o.column) ++ name_text last.name o.name,
    refl,
    step_leads last.line o.line old.1.1.0 new.1.0,
    (
      spelled (step last.original o.column),
      name_text last.name o.name,
      refl,
      step_leads last.original o.column old.1.1.1.0 new.1.1.0,
      name_leads last.name o.name old.1.1.1.1.0 new.1.1.1,
    ),
  ),
)

segment_leads : (last : Last) (s : Segment) → AllNear (last_numbers last) → AllNear (numbers s) → SpellsSegment last (segment_text last s) s
segment_leads last s old new =
    (spelled (step last.column s.column), origins_text last s.origin, refl, step_leads last.column s.column old.0 new.0, origins_lead last s.origin old new.1)

-- ---- a list cut where it was joined

abbrev pub Apart : (ℕ → Bool) → List ℕ → Type 0
Apart p [] = Unit {0}
Apart p (b ∷ bs) = (p b ≡ false) × Apart p bs

abbrev pub AllApart : (ℕ → Bool) → List (List ℕ) → Type 0
AllApart p [] = Unit {0}
AllApart p (text ∷ texts) = Apart p text × AllApart p texts

Apart-append : (p : ℕ → Bool) (xs ys : List ℕ) → Apart p xs → Apart p ys → Apart p (xs ++ ys)
Apart-append p [] ys h k = k
Apart-append p (x ∷ xs) ys h k = (h.0, Apart-append p xs ys h.1 k)

one_part : (p : ℕ → Bool) (xs : List ℕ) → Apart p xs → slice_split p xs ≡ xs ∷ []
one_part p [] h = refl
one_part p (x ∷ xs) h = ap (λ t. cond t ([] ∷ slice_split p xs) (onto_first x (slice_split p xs))) h.0 ∙ ap (onto_first x) (one_part p xs h.1)

part_first : (p : ℕ → Bool) (xs : List ℕ) (c : ℕ) (ys : List ℕ) → Apart p xs → p c ≡ true → slice_split p (xs ++ (c ∷ ys)) ≡ xs ∷ slice_split p ys
part_first p [] c ys h k = ap (λ t. cond t ([] ∷ slice_split p ys) (onto_first c (slice_split p ys))) k
part_first p (x ∷ xs) c ys h k =
    ap (λ t. cond t ([] ∷ slice_split p (xs ++ (c ∷ ys))) (onto_first x (slice_split p (xs ++ (c ∷ ys))))) h.0
    ∙ ap (onto_first x) (part_first p xs c ys h.1 k)

pub cut_again : (p : ℕ → Bool) (c : ℕ) (text : List ℕ) (texts : List (List ℕ)) → p c ≡ true → AllApart p (text ∷ texts) → slice_split p (join_with_byte c (text ∷ texts)) ≡ text ∷ texts
cut_again p c text [] k h = one_part p text h.0
cut_again p c text (next ∷ texts) k h =
    part_first p text c (join_with_byte c (next ∷ texts)) h.0 k ∙ ap (λ t. text ∷ t) (cut_again p c next texts k h.1)

Apart-joined : (p : ℕ → Bool) (c : ℕ) (texts : List (List ℕ)) → p c ≡ false → AllApart p texts → Apart p (join_with_byte c texts)
Apart-joined p c [] k h = tt
Apart-joined p c (text ∷ []) k h = h.0
Apart-joined p c (text ∷ next ∷ texts) k h = Apart-append p text (c ∷ join_with_byte c (next ∷ texts)) h.0 (k, Apart-joined p c (next ∷ texts) k h.1)

-- ---- no mark within a segment

abbrev NoGlyph : (ℕ → Bool) → Type 0
NoGlyph p = (n : ℕ) → n < 64 → p (glyph n) ≡ false

spelled_apart : (p : ℕ → Bool) (k w : ℕ) → NoGlyph p → Apart p (spelled_in k w)
unfolding spelled_in
spelled_apart p zero w apart = tt
spelled_apart p (suc k) w apart =
    elim (cases_lt w 32) [
      | inl small ↦ rw (lt-ltb w 32 small) (apart w (omega arith), tt)
      | inr big ↦ rw (le-ltb w 32 big) (apart (32 + w % 32) (omega arith), spelled_apart p k (w / 32) apart)
    ]

name_apart : (p : ℕ → Bool) (last : ℕ) (name : Option ℕ) → NoGlyph p → Apart p (name_text last name)
name_apart p last None apart = tt
name_apart p last (Some n) apart = spelled_apart p 7 (step last n) apart

origins_apart : (p : ℕ → Bool) (last : Last) (o : Option Origin) → NoGlyph p → Apart p (origins_text last o)
origins_apart p last None apart = tt
origins_apart p last (Some o) apart =
    Apart-append p (spelled (step last.source o.source)) _ (spelled_apart p 7 (step last.source o.source) apart)
    (Apart-append p (spelled (step last.line o.line)) _ (spelled_apart p 7 (step last.line o.line) apart)
    (Apart-append p (spelled (step last.original o.column)) _ (spelled_apart p 7 (step last.original o.column) apart) (name_apart p last.name o.name apart)))

segments_apart : (p : ℕ → Bool) (last : Last) (segments : List Segment) → NoGlyph p → AllApart p (segment_texts last segments)
segments_apart p last [] apart = tt
segments_apart p last (s ∷ segments) apart = (
  Apart-append p (spelled (step last.column s.column)) (origins_text last s.origin) (spelled_apart p 7 (step last.column s.column) apart) (origins_apart p last s.origin apart),
  segments_apart p (behind last s) segments apart,
)

lines_apart : (last : Last) (lines : List (List Segment)) → AllApart is_semicolon (line_texts last lines)
lines_apart last [] = tt
lines_apart last (line ∷ lines) = (
  Apart-joined is_semicolon 44 (segment_texts last line) refl (segments_apart is_semicolon last line (λ n lt. (glyph_apart n lt).1)),
  lines_apart (next_line (behind_line last line)) lines,
)

-- ---- lines

near_name : (n : Option ℕ) → name_is_near n ≡ true → AllNear (name_numbers n)
near_name None e = tt
near_name (Some n) e = (leb-true n most e, tt)

near_origin : (o : Option Origin) → origin_is_near o ≡ true → AllNear (origin_numbers o)
near_origin None e = tt
near_origin (Some o) e =
    let a = and_parts (nat_le o.source most) _ e in
    let b = and_parts (nat_le o.line most) _ a.1 in
    let d = and_parts (nat_le o.column most) _ b.1 in
    (leb-true o.source most a.0, (leb-true o.line most b.0, (leb-true o.column most d.0, near_name o.name d.1)))

near_numbers : (s : Segment) → is_near s ≡ true → AllNear (numbers s)
near_numbers s e = let a = and_parts (nat_le s.column most) (origin_is_near s.origin) e in (leb-true s.column most a.0, near_origin s.origin a.1)

no_front : (front back : List ℕ) → [] ≡ front ++ back → {last n : ℕ} → Leads last front n → ⊥
no_front [] back e h = elim h.3 [ inl up ↦ absurd up.0 | inr down ↦ absurd down.0 ]
no_front (b ∷ bs) back e h = cc

-- a piece that spells a segment is not empty
piece_with : (last : Last) (text : List ℕ) (texts : List (List ℕ)) (s : Segment) (segments : List Segment) → SpellsSegment last text s → SpellsLine (behind last s) texts segments
    → SpellsLine last (text ∷ texts) (s ∷ segments)
piece_with last (b ∷ bs) texts s segments h rest = (h, rest)
piece_with last [] texts s segments h rest = absurd (no_front h.0 h.1 h.2 h.3)

pub record LineBack (last : Last) (line : List Segment) : Type 0 where
  pub spells : SpellsLine last (segment_texts last line) line
  pub near : AllNear (last_numbers (behind_line last line))

line_back : (last : Last) (line : List Segment) → AllNear (last_numbers last) → list_all is_near line ≡ true → LineBack last line
line_back last [] old e = record { spells = tt; near = old }
line_back last (s ∷ segments) old e =
    let a = and_parts (is_near s) (list_all is_near segments) e in
    let new = near_numbers s a.0 in
    let rest = line_back (behind last s) segments (near_behind last s.column s.origin old new) a.1 in
    record { spells = piece_with last (segment_text last s) (segment_texts (behind last s) segments) s segments (segment_leads last s old new) rest.spells; near = rest.near }

cut_line : (last : Last) (line : List Segment) → SpellsLine last (segment_texts last line) line → SpellsLine last (slice_split is_comma (join_with_byte 44 (segment_texts last line))) line
cut_line last [] h = tt
cut_line last (s ∷ segments) h =
    rw (cut_again is_comma 44 (segment_text last s) (segment_texts (behind last s) segments) refl (segments_apart is_comma last (s ∷ segments) (λ n lt. (glyph_apart n lt).0))) h

lines_back : (last : Last) (lines : List (List Segment)) → AllNear (last_numbers last) → list_all (list_all is_near) lines ≡ true → SpellsLines last (line_texts last lines) lines
lines_back last [] old e = tt
lines_back last (line ∷ lines) old e =
    let a = and_parts (list_all is_near line) (list_all (list_all is_near) lines) e in
    let this = line_back last line old a.0 in
    let next : AllNear (last_numbers (next_line (behind_line last line))) = (omega arith, this.near.1) in
    (cut_line last line this.spells, lines_back (next_line (behind_line last line)) lines next a.1)

starts_near : AllNear (last_numbers start)
starts_near = (omega arith, (omega arith, (omega arith, (omega arith, (omega arith, tt)))))

spelled_back : (lines : List (List Segment)) → 0 < length lines → list_all (list_all is_near) lines ≡ true → SpellsMappings (written lines) lines
unfolding written
spelled_back [] some near = absurd (omega arith)
spelled_back (line ∷ lines) some near =
    rw
    (cut_again is_semicolon 59 (join_with_byte 44 (segment_texts start line)) (line_texts (next_line (behind_line start line)) lines) refl (lines_apart start (line ∷ lines)))
    (lines_back start (line ∷ lines) starts_near near)

pub written_so : (lines : List (List Segment)) → AreMappings lines → SpellsMappings (written lines) lines
written_so lines kept = spelled_back lines kept.some kept.near
