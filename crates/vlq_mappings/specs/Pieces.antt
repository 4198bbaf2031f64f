-- A text as it is read on from a place: what is left of its line and of its piece, and values as far as they are kept.
use Rattle.std.specs.Prelude.{ℕ, ◌+◌, ◌^◌, min, Bool, true, false, List, [], ◌∷◌, ◌++◌, map, drop, cond, Result, Ok}
use Rattle.std.specs.List.{slice_split}
use Rattle.vlq_mappings.specs.declared.Segment.{Segment}
use Rattle.vlq_mappings.specs.declared.VlqFault.{VlqFault}
use Rattle.vlq_mappings.specs.declared.values.Value.{Value}
use Rattle.vlq_mappings.specs.declared.last.Last.{Last}
use Rattle.vlq_mappings.specs.Faults.{◌>>=◌}
use Rattle.vlq_mappings.specs.Digits.{value, values}
use Rattle.vlq_mappings.specs.Mappings.{is_comma, is_semicolon, next_line, segments_at, lines_at}

-- what stands before the first that passes
abbrev pub upto : (ℕ → Bool) → List ℕ → List ℕ
upto p [] = []
upto p (b ∷ bs) = cond (p b) [] (b ∷ upto p bs)

-- what is left of the line, and of the piece, at a place of a text
abbrev pub line_at : List ℕ → ℕ → List ℕ
line_at text at = upto is_semicolon (drop at text)

abbrev pub piece_at : List ℕ → ℕ → List ℕ
piece_at text at = upto is_comma (upto is_semicolon (drop at text))

abbrev pub is_end : List ℕ → Bool
is_end [] = true
is_end (b ∷ bs) = false

-- a whole number from 2^32 on leads to no number, so it is kept as 2^32
abbrev pub nearest : Value → Value
nearest v = value v.place (min v.whole (2 ^ 32))

abbrev pub near_values : ℕ → List ℕ → Result (List Value) VlqFault
near_values place bytes = values place bytes >>= λ vs. Ok (map nearest vs)

abbrev pub with_value : Value → List Value → Result (List Value) VlqFault
with_value v vs = Ok (v ∷ vs)

-- the segments of what is left of a line
abbrev pub line_segments : List ℕ → ℕ → Last → Result (List Segment × Last) VlqFault
line_segments text at last = segments_at at last (slice_split is_comma (line_at text at))

-- segments that were read before others
abbrev pub with_front : List Segment → List Segment × Last → Result (List Segment × Last) VlqFault
with_front front rest = Ok (front ++ rest.0, rest.1)

-- the lines behind the end of a line
abbrev pub lines_behind : ℕ → Last → List ℕ → Result (List (List Segment)) VlqFault
lines_behind at last [] = Ok []
lines_behind at last (b ∷ bs) = lines_at (at + 1) (next_line last) (slice_split is_semicolon bs)

abbrev pub with_lines : List (List Segment) → List (List Segment) → Result (List (List Segment)) VlqFault
with_lines front lines = Ok (front ++ lines)
