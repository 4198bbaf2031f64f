-- A table of lines: their spans, and how many units the text has.
use Rattle.std.specs.Prelude.{ℕ, ◌+◌, ◌^◌, ◌<◌, Bool, true, ◌&&◌, List, [], ◌∷◌, length, nat_le, ◌==◌, IsTrue}
use Rattle.utf16_lines.specs.declared.Span.{Span}

pub record Table : Type 0 where
  pub spans : List Span
  pub units : ℕ

-- Each line begins behind the one before it, at least one unit of line end between them, and ends within the units.
abbrev pub are_lines : ℕ → ℕ → List Span → Bool
are_lines least units [] = true
are_lines least units (s ∷ spans) = nat_le least s.start && (nat_le s.start s.end && (nat_le s.end units && are_lines (s.end + 1) units spans))

-- The first line, if there is one, begins with the text.
abbrev pub begins_with_text : List Span → Bool
begins_with_text [] = true
begins_with_text (s ∷ spans) = s.start == 0

-- the lines stand in order from the start of the text on, and their number, counted from 1, is a u32
pub record IsTable (spans : List Span) (units : ℕ) : Type 0 where
  pub first : IsTrue (begins_with_text spans)
  pub lines : IsTrue (are_lines 0 units spans)
  pub fits : length spans < 2 ^ 32
