-- A file as far as its parts are known.
use Rattle.std.specs.Prelude.{◌≡◌, ◌≤◌, ℕ, List, [], ◌∷◌, ◌++◌, length, Option, None, Some, Result, Ok, Err}
use Rattle.cov_text.specs.Listing.{max_text}
use Rattle.json_shapes.specs.Shapes.{◌>>=◌}
use Rattle.utf16_lines.specs.Table.{Table}
use Rattle.utf16_lines.specs.Lines.{table_of}
use Rattle.istanbul_rules.specs.declared.part.Part.{Part}
use Rattle.cov_report.specs.declared.answer.SkipCause.{SkipCause}

-- its text, the lines of that, and its parts so far
pub record SoFar : Type 0 where
  pub text : List ℕ
  pub table : Table
  pub parts : List Part

-- The text isn't too long, and the table is that of its lines.
pub record IsFile (text : List ℕ) (table : Table) : Type 0 where
  pub short : length text ≤ max_text
  pub made : table ≡ table_of text

-- a file of this text, without parts
abbrev pub new_file : List ℕ → SoFar
new_file text = record { text = text; table = table_of text; parts = [] }

abbrev pub with_part : SoFar → Part → SoFar
with_part file part = record { text = file.text; table = file.table; parts = file.parts ++ part ∷ [] }

-- the file that is there, or else a new one of the own text
abbrev pub taken_from : Option SoFar → Result (List ℕ) SkipCause → Result SoFar SkipCause
taken_from None own = own >>= λ text. Ok (new_file text)
taken_from (Some file) own = Ok file
