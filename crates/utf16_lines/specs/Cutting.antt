-- The lines of a text by its line ends.
use Rattle.std.specs.Prelude.{◌≡◌, ◌≢◌, ℕ, ◌+◌, ◌⊎◌, Bool, true, not, List, [], ◌∷◌, ◌++◌, length, ◌==◌, Some}
use Rattle.std.specs.List.{list_all}
use Rattle.cov_text.specs.Listing.{last_of}
use Rattle.utf16_lines.specs.declared.Span.{Span}
use Rattle.utf16_lines.specs.Lines.{span, units, lines}

abbrev pub has_no_lf : List ℕ → Bool
has_no_lf us = list_all (λ u. not (u == 10)) us

-- Behind a line stands CR LF, or LF where the line doesn't end with CR, or the end of the text where the line has a unit.
abbrev pub EndsLine : List ℕ → List ℕ → List ℕ → Type 0
EndsLine line line_end rest =
    (line_end ≡ 13 ∷ 10 ∷ []) ⊎ (((line_end ≡ 10 ∷ []) × (last_of line ≢ Some 13)) ⊎ ((line_end ≡ []) × (rest ≡ []) × (line ≢ [])))

-- The units from `at` on are a line in this span, its end, and the rest.
pub record BeginsWith (at : ℕ) (us : List ℕ) (s : Span) : Type 0 where
  pub line : List ℕ
  pub line_end : List ℕ
  pub rest : List ℕ
  pub whole : us ≡ line ++ (line_end ++ rest)
  pub lies : s ≡ span at (at + length line)
  pub one : has_no_lf line ≡ true
  pub ends : EndsLine line line_end rest

-- The units from `at` on are lines in these spans, each with its end.
abbrev pub AreLinesOf : ℕ → List ℕ → List Span → Type 0
AreLinesOf at us [] = us ≡ []
AreLinesOf at us (s ∷ spans) = (first : BeginsWith at us s) × AreLinesOf (at + length first.line + length first.line_end) first.rest spans

-- The lines of a text are what its line ends make of its units.
abbrev pub LinesEndAtLineEnds : Type 0
LinesEndAtLineEnds = (text : List ℕ) → AreLinesOf 0 (units text) (lines text)

-- Line ends make lines of units in one way only.
abbrev pub OneWayToCut : Type 0
OneWayToCut = (at : ℕ) (us : List ℕ) (spans others : List Span) → AreLinesOf at us spans → AreLinesOf at us others → spans ≡ others
