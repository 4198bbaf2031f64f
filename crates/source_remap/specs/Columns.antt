-- The least column at which segments land on a line.
use Rattle.std.specs.Prelude.{ℕ, min, List, [], ◌∷◌}
use Rattle.source_remap.specs.declared.lines.Landing.{Landing}
use Rattle.source_remap.specs.Origins.{on_line, leftmost_offsets}

-- the least column of these, and the greatest number where there are none
abbrev pub least_column : List Landing → ℕ
least_column [] = 4294967295
least_column (l ∷ ls) = min l.column (least_column ls)

-- that of those on a line
abbrev pub least_on : List Landing → ℕ → ℕ
least_on all line = least_column (on_line line all)

-- the offsets of the leftmost of those on a line
abbrev pub leftmost_on : List Landing → ℕ → List ℕ
leftmost_on all line = leftmost_offsets (on_line line all)
