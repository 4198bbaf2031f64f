-- What is read is spelled so, line by line, and passes no bound.
use Rattle.std.proofs.Common.{◌≡◌, ℕ, ◌+◌, ◌≤◌, true, List, [], ◌∷◌, length, refl, sym, ap, subst, ◌∙◌, arith}
use Rattle.std.specs.Prelude.{Option, None, Some, Ok, nat_le}
use Rattle.std.specs.List.{slice_split, list_all}
use Rattle.std.proofs.lemmas.Bool.{le-leb, and_from}
use Rattle.vlq_mappings.specs.declared.Origin.{Origin}
use Rattle.vlq_mappings.specs.declared.Segment.{Segment}
use Rattle.vlq_mappings.specs.declared.last.Last.{Last}
use Rattle.vlq_mappings.specs.Kept.{most, is_near, origin_is_near, name_is_near}
use Rattle.vlq_mappings.specs.Digits.{values}
use Rattle.vlq_mappings.specs.Mappings.{segment_of, segment_at, segments_at, with_segment, lines_at, with_line, next_line, is_comma}
use Rattle.vlq_mappings.specs.Grammar.{LeadsToEach, SpellsSegment, SpellsLine, SpellsLines, numbers, origin_numbers, name_numbers, last_numbers, name_or, behind, behind_line}
use Rattle.vlq_mappings.proofs.Binds.{bound, ok_same}
use Rattle.vlq_mappings.proofs.Found.{AllNear, values_found, each_found, segment_moved}

-- ---- bounds

near_each : (lasts : List ℕ) (bytes ns : List ℕ) → LeadsToEach lasts bytes ns → AllNear ns
near_each lasts bytes [] h = tt
near_each [] bytes (n ∷ ns) h = absurd h
near_each (last ∷ lasts) bytes (n ∷ ns) h = (h.3.2, near_each lasts h.1 ns h.4)

name_behind : (last column source line original : ℕ) (name : Option ℕ) → last ≤ most → AllNear (column ∷ source ∷ line ∷ original ∷ name_numbers name)
    → AllNear (column ∷ source ∷ line ∷ original ∷ name_or last name ∷ [])
name_behind last column source line original None old new = (new.0, (new.1.0, (new.1.1.0, (new.1.1.1.0, (old, tt)))))
name_behind last column source line original (Some n) old new = new

pub near_behind : (last : Last) (column : ℕ) (o : Option Origin) → AllNear (last_numbers last) → AllNear (column ∷ origin_numbers o)
    → AllNear (last_numbers (behind last (record { column = column; origin = o })))
near_behind last column None old new = (new.0, old.1)
near_behind last column (Some o) old new = name_behind last.name column o.source o.line o.column o.name old.1.1.1.1.0 new

near_name : (n : Option ℕ) → AllNear (name_numbers n) → name_is_near n ≡ true
near_name None h = refl
near_name (Some n) h = le-leb n most h.0

near_origin : (o : Option Origin) → AllNear (origin_numbers o) → origin_is_near o ≡ true
near_origin None h = refl
near_origin (Some o) h =
    and_from (nat_le o.source most) _ (le-leb o.source most h.0)
    (and_from (nat_le o.line most) _ (le-leb o.line most h.1.0) (and_from (nat_le o.column most) _ (le-leb o.column most h.1.1.0) (near_name o.name h.1.1.1)))

near_segment : (s : Segment) → AllNear (numbers s) → is_near s ≡ true
near_segment s h = and_from (nat_le s.column most) (origin_is_near s.origin) (le-leb s.column most h.0) (near_origin s.origin h.1)

-- ---- segments

pub record Found (last : Last) (bytes : List ℕ) (x : Segment × Last) : Type 0 where
  pub spells : SpellsSegment last bytes x.0
  pub then : x.1 ≡ behind last x.0
  pub near : AllNear (last_numbers x.1)
  pub kept : is_near x.0 ≡ true

pub segment_found : (place : ℕ) (last : Last) (bytes : List ℕ) (x : Segment × Last) → AllNear (last_numbers last) → segment_at place last bytes ≡ Ok x → Found last bytes x
segment_found place last bytes x old e =
    let r = bound (values place bytes) (segment_of place last) x e in
    let m = segment_moved place last r.value x r.then in
    let spells = each_found place (last_numbers last) r.value (numbers x.0) bytes old m.all_moved (values_found place bytes r.value r.first) in
    let new = near_each (last_numbers last) bytes (numbers x.0) spells in
    record {
      spells = spells;
      then = m.then;
      near = subst (λ (l : Last). AllNear (last_numbers l)) (sym m.then) (near_behind last x.0.column x.0.origin old new);
      kept = near_segment x.0 new;
    }

-- ---- a line

empty_piece : (last : Last) (pieces : List (List ℕ)) (segments : List Segment) → SpellsLine last pieces segments → SpellsLine last ([] ∷ pieces) segments
empty_piece last pieces [] h = h
empty_piece last pieces (s ∷ segments) h = h

pub record LineFound (last : Last) (pieces : List (List ℕ)) (x : List Segment × Last) : Type 0 where
  pub spells : SpellsLine last pieces x.0
  pub then : x.1 ≡ behind_line last x.0
  pub near : AllNear (last_numbers x.1)
  pub kept : list_all is_near x.0 ≡ true

line_with : (last : Last) (b : ℕ) (bs : List ℕ) (pieces : List (List ℕ)) (s : Segment × Last) (rest x : List Segment × Last)
    → Found last (b ∷ bs) s → LineFound s.1 pieces rest → with_segment s.0 rest ≡ Ok x → LineFound last ((b ∷ bs) ∷ pieces) x
line_with last b bs pieces s rest x found others e =
    let same : (s.0 ∷ rest.0, rest.1) ≡ x = ok_same _ _ e in
    subst (LineFound last ((b ∷ bs) ∷ pieces)) same
    (record {
      spells = (found.spells, subst (λ (l : Last). SpellsLine l pieces rest.0) found.then others.spells);
      then = others.then ∙ ap (λ l. behind_line l rest.0) found.then;
      near = others.near;
      kept = and_from (is_near s.0) (list_all is_near rest.0) found.kept others.kept;
    })

pub line_found : (place : ℕ) (last : Last) (pieces : List (List ℕ)) (x : List Segment × Last) → AllNear (last_numbers last) → segments_at place last pieces ≡ Ok x → LineFound last pieces x
line_found place last [] x old e =
    let same : ([], last) ≡ x = ok_same _ _ e in
    subst (LineFound last []) same (record { spells = tt; then = refl; near = old; kept = refl })
line_found place last ([] ∷ pieces) x old e =
    let r = line_found (place + 1) last pieces x old e in
    record { spells = empty_piece last pieces x.0 r.spells; then = r.then; near = r.near; kept = r.kept }
line_found place last ((b ∷ bs) ∷ pieces) x old e =
    let a = bound (segment_at place last (b ∷ bs)) _ x e in
    let found = segment_found place last (b ∷ bs) a.value old a.first in
    let r = bound (segments_at (place + length (b ∷ bs) + 1) a.value.1 pieces) (with_segment a.value.0) x a.then in
    line_with last b bs pieces a.value r.value x found (line_found (place + length (b ∷ bs) + 1) a.value.1 pieces r.value found.near r.first) r.then

-- ---- lines

pub record LinesFound (last : Last) (texts : List (List ℕ)) (lines : List (List Segment)) : Type 0 where
  pub spells : SpellsLines last texts lines
  pub kept : list_all (list_all is_near) lines ≡ true

pub lines_found : (place : ℕ) (last : Last) (texts : List (List ℕ)) (lines : List (List Segment)) → AllNear (last_numbers last) → lines_at place last texts ≡ Ok lines → LinesFound last texts lines
lines_found place last [] lines old e =
    let same : [] ≡ lines = ok_same _ _ e in
    subst (LinesFound last []) same (record { spells = tt; kept = refl })
lines_found place last (text ∷ texts) lines old e =
    let a = bound (segments_at place last (slice_split is_comma text)) _ lines e in
    let found = line_found place last (slice_split is_comma text) a.value old a.first in
    let r = bound (lines_at (place + length text + 1) (next_line a.value.1) texts) (with_line a.value.0) lines a.then in
    let zero_column : AllNear (last_numbers (next_line a.value.1)) = (omega arith, found.near.1) in
    let others = lines_found (place + length text + 1) (next_line a.value.1) texts r.value zero_column r.first in
    let same : a.value.0 ∷ r.value ≡ lines = ok_same _ _ r.then in
    subst (LinesFound last (text ∷ texts)) same
    (record {
      spells = (found.spells, subst (λ (l : Last). SpellsLines (next_line l) texts r.value) found.then others.spells);
      kept = and_from (list_all is_near a.value.0) (list_all (list_all is_near) r.value) found.kept others.kept;
    })
