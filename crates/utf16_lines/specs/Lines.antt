-- The lines of a text in UTF-16 code units, as JavaScript counts them.
use Rattle.std.specs.Prelude.{ℕ, suc, ◌+◌, ◌-◌, min, Bool, false, List, [], ◌∷◌, length, sum, flat_map, filter, nat_lt, nat_le, ◌==◌, if◌then◌else◌, Option, None, Some, option_map, option_and_then, unwrap_or, chars, slice_get}
use Rattle.std.specs.Char.Escape.{encode_utf16}
use Rattle.cov_text.specs.Listing.{last_of}
use Rattle.utf16_lines.specs.declared.Span.{Span}
use Rattle.utf16_lines.specs.declared.Spot.{Spot}
use Rattle.utf16_lines.specs.Table.{Table}

-- the code units of a text: its characters, those past U+FFFF as surrogate pairs
unfoldable pub units : List ℕ → List ℕ
units text = flat_map encode_utf16 (chars text)

abbrev pub span : ℕ → ℕ → Span
span start end = record { start = start; end = end }

-- The spans of the lines, from the unit at `at` on: the open line began at start, and `cr` says that a CR stands before.
-- A line ends at LF, or at CR LF, and neither is in its span. What is open at the end is a line, unless nothing is.
abbrev pub spans_from : ℕ → Bool → ℕ → List ℕ → List Span
spans_from start cr at [] = if start == at then [] else span start at ∷ []
spans_from start cr at (u ∷ us) =
    if u == 10 then span start (if cr then at - 1 else at) ∷ spans_from (at + 1) false (at + 1) us else spans_from start (u == 13) (at + 1) us

unfoldable pub lines : List ℕ → List Span
lines text = spans_from 0 false 0 (units text)

-- ---- for a list of lengths: each line but the last is followed by one unit

abbrev pub lines_of_lengths : ℕ → List ℕ → List Span
lines_of_lengths start [] = []
lines_of_lengths start (n ∷ lengths) = span start (start + n) ∷ lines_of_lengths (start + n + 1) lengths

-- the lengths together, and the number of lines less one
abbrev pub units_of_lengths : List ℕ → ℕ
units_of_lengths lengths = sum lengths + (length lengths - 1)

-- ---- from an offset to a line and a column, and back

-- the lines, each with its number, the first of them with k
abbrev pub numbered : ℕ → List Span → List (ℕ × Span)
numbered k [] = []
numbered k (s ∷ spans) = (k, s) ∷ numbered (suc k) spans

-- whether a line begins at the offset or before
abbrev pub begins_by : ℕ → Span → Bool
begins_by o s = nat_le s.start o

-- the last line that begins at the offset or before, with its number
abbrev pub line_at : List Span → ℕ → Option (ℕ × Span)
line_at spans o = last_of (filter (λ at. begins_by o at.1) (numbered 0 spans))

-- how far the offset is in a line, and its length where the offset is behind it
abbrev pub column_in : Span → ℕ → ℕ
column_in s o = min (o - s.start) (s.end - s.start)

abbrev pub place_of : ℕ → List Span → ℕ → Option Spot
place_of all spans o = if nat_lt all o then None else option_map (λ at. record { line = at.0; column = column_in at.1 o }) (line_at spans o)

abbrev pub offset_of : List Span → Spot → Option ℕ
offset_of spans spot = option_and_then (λ s. if nat_le spot.column (s.end - s.start) then Some (s.start + spot.column) else None) (slice_get spans spot.line)

-- ---- tables

-- the table of a text
unfoldable pub table_of : List ℕ → Table
table_of text = record { spans = lines text; units = length (units text) }

-- the most units that a list of lengths may come to, so that the number of lines is a u32
abbrev pub most_units : ℕ
most_units = 4294967294

-- the table of a list of lengths, where its units stay within the limit
unfoldable pub table_of_lengths : List ℕ → Option Table
table_of_lengths lengths =
    if nat_lt most_units (units_of_lengths lengths) then None
    else Some (record { spans = lines_of_lengths 0 lengths; units = units_of_lengths lengths })

-- the spot of an offset: the last line that begins there or before, the column cut to its length
abbrev pub place : Table → ℕ → Option Spot
place table o = place_of table.units table.spans o

-- the offset of a spot
abbrev pub offset : Table → Spot → Option ℕ
offset table spot = offset_of table.spans spot

-- the length of a line, and 0 of one that isn't there
abbrev pub line_length : Table → ℕ → ℕ
line_length table i = unwrap_or (option_map (λ s. s.end - s.start) (slice_get table.spans i)) 0
