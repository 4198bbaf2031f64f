-- The text of mappings: each value in its shortest spelling, `,` between segments, `;` between lines.
use Rattle.std.specs.Prelude.{ℕ, zero, suc, ◌+◌, ◌-◌, ◌*◌, ◌/◌, ◌%◌, List, [], ◌∷◌, ◌++◌, nat_lt, ◌==◌, if◌then◌else◌, Option, None, Some}
use Rattle.std.specs.List.{join_with_byte}
use Rattle.vlq_mappings.specs.declared.Origin.{Origin}
use Rattle.vlq_mappings.specs.declared.Segment.{Segment}
use Rattle.vlq_mappings.specs.declared.last.Last.{Last}
use Rattle.vlq_mappings.specs.Mappings.{start, next_line}
use Rattle.vlq_mappings.specs.Grammar.{behind, behind_line}

-- the base64 digit that is worth n
abbrev pub glyph : ℕ → ℕ
glyph n = if nat_lt n 26 then 65 + n else (if nat_lt n 52 then 71 + n else (if nat_lt n 62 then n - 4 else (if n == 62 then 43 else 47)))

-- a whole number in as few digits as spell it, at most so many
unfoldable pub spelled_in : ℕ → ℕ → List ℕ
spelled_in zero whole = []
spelled_in (suc digits) whole = if nat_lt whole 32 then glyph whole ∷ [] else glyph (32 + whole % 32) ∷ spelled_in digits (whole / 32)

-- 32 bits have at most seven groups of five
abbrev pub spelled : ℕ → List ℕ
spelled whole = spelled_in 7 whole

-- the step from the last number of a kind to the next: twice its size, and one more where it falls
abbrev pub step : ℕ → ℕ → ℕ
step last n = if nat_lt n last then 2 * (last - n) + 1 else 2 * (n - last)

abbrev pub name_text : ℕ → Option ℕ → List ℕ
name_text last None = []
name_text last (Some n) = spelled (step last n)

abbrev pub origin_text : Last → Origin → List ℕ
origin_text last o = spelled (step last.source o.source) ++ (spelled (step last.line o.line) ++ (spelled (step last.original o.column) ++ name_text last.name o.name))

abbrev pub origins_text : Last → Option Origin → List ℕ
origins_text last None = []
origins_text last (Some o) = origin_text last o

-- the steps of a segment, column, source, original line, original column and name
abbrev pub segment_text : Last → Segment → List ℕ
segment_text last s = spelled (step last.column s.column) ++ origins_text last s.origin

abbrev pub segment_texts : Last → List Segment → List (List ℕ)
segment_texts last [] = []
segment_texts last (s ∷ segments) = segment_text last s ∷ segment_texts (behind last s) segments

abbrev pub line_texts : Last → List (List Segment) → List (List ℕ)
line_texts last [] = []
line_texts last (line ∷ lines) = join_with_byte 44 (segment_texts last line) ∷ line_texts (next_line (behind_line last line)) lines

-- the text of lines of segments
unfoldable pub written : List (List Segment) → List ℕ
written lines = join_with_byte 59 (line_texts start lines)

-- texts with this byte before each
abbrev pub preceded : ℕ → List (List ℕ) → List ℕ
preceded c [] = []
preceded c (text ∷ texts) = (c ∷ text) ++ preceded c texts
