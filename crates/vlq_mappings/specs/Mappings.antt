-- The `mappings` text of Source Map revision 3: lines parted by `;`, segments by `,`, values in base64 VLQ.
use Rattle.std.specs.Prelude.{ℕ, ◌+◌, ◌-◌, ◌/◌, ◌%◌, Bool, List, [], ◌∷◌, length, nat_lt, ◌==◌, if◌then◌else◌, None, Some, Result, Ok}
use Rattle.std.specs.List.{slice_split}
use Rattle.vlq_mappings.specs.declared.Segment.{Segment}
use Rattle.vlq_mappings.specs.declared.VlqCause.TheVariants.{Fields, Range}
use Rattle.vlq_mappings.specs.declared.VlqFault.{VlqFault}
use Rattle.vlq_mappings.specs.declared.values.Value.{Value}
use Rattle.vlq_mappings.specs.declared.last.Last.{Last}
use Rattle.vlq_mappings.specs.Faults.{◌>>=◌, fault}
use Rattle.vlq_mappings.specs.Kept.{most}
use Rattle.vlq_mappings.specs.Digits.{values}

-- A value is twice its size, and one more where it is negative. The number that it leads to from the last of its kind.
abbrev pub moved : ℕ → Value → Result ℕ VlqFault
moved last v =
    let size = v.whole / 2 in
    if nat_lt most size then fault v.place Range
    else (if v.whole % 2 == 1 then (if nat_lt last size then fault v.place Range else Ok (last - size))
    else (if nat_lt most (last + size) then fault v.place Range else Ok (last + size)))

-- before the first segment each last number is 0
abbrev pub start : Last
start = record { column = 0; source = 0; line = 0; original = 0; name = 0 }

-- behind the end of a line the column alone is 0 again
abbrev pub next_line : Last → Last
next_line last = record last { column = 0 }

-- The segment of one value, of four or of five, and the last numbers behind it.
abbrev pub segment_of : ℕ → Last → List Value → Result (Segment × Last) VlqFault
segment_of place last (c ∷ []) = do
  column ← moved last.column c
  Ok (record { column = column; origin = None }, record last { column = column })
segment_of place last (c ∷ s ∷ l ∷ o ∷ []) = do
  column ← moved last.column c
  source ← moved last.source s
  line ← moved last.line l
  original ← moved last.original o
  Ok (
    record { column = column; origin = Some (record { source = source; line = line; column = original; name = None }) },
    record last { column = column; source = source; line = line; original = original },
  )
segment_of place last (c ∷ s ∷ l ∷ o ∷ n ∷ []) = do
  column ← moved last.column c
  source ← moved last.source s
  line ← moved last.line l
  original ← moved last.original o
  name ← moved last.name n
  Ok (
    record { column = column; origin = Some (record { source = source; line = line; column = original; name = Some name }) },
    record { column = column; source = source; line = line; original = original; name = name },
  )
segment_of place last values = fault place Fields

-- the segment that bytes spell from a place on
abbrev pub segment_at : ℕ → Last → List ℕ → Result (Segment × Last) VlqFault
segment_at place last bytes = values place bytes >>= segment_of place last

abbrev pub with_segment : Segment → List Segment × Last → Result (List Segment × Last) VlqFault
with_segment s rest = Ok (s ∷ rest.0, rest.1)

-- The segments of a line, piece by piece; an empty piece is none. A byte stands between each two pieces.
abbrev pub segments_at : ℕ → Last → List (List ℕ) → Result (List Segment × Last) VlqFault
segments_at place last [] = Ok ([], last)
segments_at place last ([] ∷ pieces) = segments_at (place + 1) last pieces
segments_at place last ((b ∷ bs) ∷ pieces) =
    segment_at place last (b ∷ bs) >>= λ s. segments_at (place + length (b ∷ bs) + 1) s.1 pieces >>= with_segment s.0

abbrev pub is_comma : ℕ → Bool
is_comma b = b == 44

abbrev pub is_semicolon : ℕ → Bool
is_semicolon b = b == 59

abbrev pub with_line : List Segment → List (List Segment) → Result (List (List Segment)) VlqFault
with_line line lines = Ok (line ∷ lines)

-- the lines of a text, line by line
abbrev pub lines_at : ℕ → Last → List (List ℕ) → Result (List (List Segment)) VlqFault
lines_at place last [] = Ok []
lines_at place last (line ∷ lines) =
    segments_at place last (slice_split is_comma line) >>= λ s. lines_at (place + length line + 1) (next_line s.1) lines >>= with_line s.0

-- the lines of segments that a text spells, or its first fault
unfoldable pub mappings : List ℕ → Result (List (List Segment)) VlqFault
mappings text = lines_at 0 start (slice_split is_semicolon text)
