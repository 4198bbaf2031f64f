-- What a `mappings` text says, as a relation between bytes and segments: the grammar of Source Map revision 3.
use Rattle.std.specs.Prelude.{◌≡◌, ℕ, ◌+◌, ◌*◌, ◌≤◌, ◌⊎◌, List, [], ◌∷◌, ◌++◌, Option, None, Some}
use Rattle.std.specs.List.{slice_split}
use Rattle.vlq_mappings.specs.declared.Origin.{Origin}
use Rattle.vlq_mappings.specs.declared.Segment.{Segment}
use Rattle.vlq_mappings.specs.declared.last.Last.{Last}
use Rattle.vlq_mappings.specs.Kept.{most}
use Rattle.vlq_mappings.specs.Digits.{Spells}
use Rattle.vlq_mappings.specs.Mappings.{start, next_line, is_comma, is_semicolon}

-- the numbers of a segment in their order: column, source, original line, original column, name
abbrev pub name_numbers : Option ℕ → List ℕ
name_numbers None = []
name_numbers (Some n) = n ∷ []

abbrev pub origin_numbers : Option Origin → List ℕ
origin_numbers None = []
origin_numbers (Some o) = o.source ∷ o.line ∷ o.column ∷ name_numbers o.name

abbrev pub numbers : Segment → List ℕ
numbers s = s.column ∷ origin_numbers s.origin

-- the last numbers, in the same order
abbrev pub last_numbers : Last → List ℕ
last_numbers last = last.column ∷ last.source ∷ last.line ∷ last.original ∷ last.name ∷ []

-- the last numbers behind a segment
abbrev pub name_or : ℕ → Option ℕ → ℕ
name_or last None = last
name_or last (Some n) = n

abbrev pub behind_origin : Last → Option Origin → Last
behind_origin last None = last
behind_origin last (Some o) = record last { source = o.source; line = o.line; original = o.column; name = name_or last.name o.name }

abbrev pub behind : Last → Segment → Last
behind last s = record (behind_origin last s.origin) { column = s.column }

abbrev pub behind_line : Last → List Segment → Last
behind_line last [] = last
behind_line last (s ∷ segments) = behind_line (behind last s) segments

-- Bytes that lead from the last number of a kind to the next: they spell twice the size of the step, and one more where it falls.
-- Neither the size nor the number passes the greatest. No step falls below 0.
abbrev pub Leads : ℕ → List ℕ → ℕ → Type 0
Leads last bytes n =
    (size : ℕ) × (size ≤ most) × (n ≤ most) × ((Spells bytes (2 * size) × (n ≡ last + size)) ⊎ (Spells bytes (2 * size + 1) × (n + size ≡ last)))

-- bytes that lead to each number in turn, each from the last of its kind
abbrev pub LeadsToEach : List ℕ → List ℕ → List ℕ → Type 0
LeadsToEach lasts bytes [] = bytes ≡ []
LeadsToEach [] bytes (n ∷ ns) = ⊥
LeadsToEach (last ∷ lasts) bytes (n ∷ ns) = (front : List ℕ) × (back : List ℕ) × (bytes ≡ front ++ back) × Leads last front n × LeadsToEach lasts back ns

-- bytes that spell a segment
abbrev pub SpellsSegment : Last → List ℕ → Segment → Type 0
SpellsSegment last bytes s = LeadsToEach (last_numbers last) bytes (numbers s)

-- pieces that spell the segments of a line; an empty piece spells none
abbrev pub SpellsLine : Last → List (List ℕ) → List Segment → Type 0
SpellsLine last [] [] = Unit {0}
SpellsLine last [] (s ∷ segments) = ⊥
SpellsLine last ([] ∷ pieces) segments = SpellsLine last pieces segments
SpellsLine last ((b ∷ bs) ∷ pieces) [] = ⊥
SpellsLine last ((b ∷ bs) ∷ pieces) (s ∷ segments) = SpellsSegment last (b ∷ bs) s × SpellsLine (behind last s) pieces segments

-- texts that spell lines
abbrev pub SpellsLines : Last → List (List ℕ) → List (List Segment) → Type 0
SpellsLines last [] [] = Unit {0}
SpellsLines last [] (line ∷ lines) = ⊥
SpellsLines last (text ∷ texts) [] = ⊥
SpellsLines last (text ∷ texts) (line ∷ lines) =
    SpellsLine last (slice_split is_comma text) line × SpellsLines (next_line (behind_line last line)) texts lines

-- The text spells the lines: cut at each `;` it has their texts, and each of these, cut at each `,`, has the segments.
abbrev pub SpellsMappings : List ℕ → List (List Segment) → Type 0
SpellsMappings text lines = SpellsLines start (slice_split is_semicolon text) lines
