-- What code holds of those asked for so far.
use Rattle.std.specs.Prelude.{◌≡◌, ℕ, List, [], map, Option, option_map}
use Rattle.std.specs.BTreeMap.{get}
use Rattle.cov_text.specs.Listing.{text_cmp}
use Rattle.cov_io.specs.Told.{Files}
use Rattle.utf16_lines.specs.Lines.{table_of}
use Rattle.istanbul_json.specs.declared.file.FileParts.{FileParts}
use Rattle.istanbul_rules.specs.File.{file_coverage}
use Rattle.cov_report.specs.declared.gathering.Gathered.{Gathered}
use Rattle.cov_report.specs.SoFar.{SoFar}
use Rattle.cov_report.specs.Wanted.{Asked}
use Rattle.cov_report.specs.Report.{Placed, outcomes, parts_in, skips_in, parts_at, first_text}

-- a file of this text and the parts of this path
abbrev pub with_parts : List Placed → List ℕ → List ℕ → SoFar
with_parts ps path text = record { text = text; table = table_of text; parts = map (λ p. p.part) (parts_at path ps) }

-- the file at a path, if one was asked for there that has a good text
abbrev pub so_far : Files → List Asked → List ℕ → Option SoFar
so_far files earlier path = option_map (with_parts (parts_in (outcomes files [] earlier)) path) (first_text files path earlier)

-- it holds the file at each path, and what is left out
pub record Gathers (files : Files) (earlier : List Asked) (gathered : Gathered) : Type 0 where
  pub at : (path : List ℕ) → get text_cmp gathered.files path ≡ so_far files earlier path
  pub skips : gathered.skips ≡ skips_in (outcomes files [] earlier)

-- the coverage of a file at its path
abbrev pub coverage_at : List ℕ × SoFar → FileParts
coverage_at file = file_coverage file.0 file.1.text file.1.parts
