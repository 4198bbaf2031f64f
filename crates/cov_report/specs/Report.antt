-- The report: the files by path, and what is left out.
use Rattle.std.specs.Prelude.{ℕ, List, [], ◌∷◌, ◌++◌, map, if◌then◌else◌, Option, None, Some, option_map, unwrap_or, Result, Ok, Err, filter, filter_map}
use Rattle.cov_text.specs.Listing.{first_of, same_text, text_cmp, in_order}
use Rattle.cov_model.specs.declared.snapshot.Snapshot.{Snapshot}
use Rattle.json_shapes.specs.Shapes.{◌>>=◌}
use Rattle.cov_model.specs.File.{scripts}
use Rattle.cov_io.specs.Told.{Files}
use Rattle.utf16_lines.specs.Lines.{table_of}
use Rattle.source_maps.specs.Entries.{Said}
use Rattle.istanbul_json.specs.declared.file.FileParts.{FileParts}
use Rattle.istanbul_rules.specs.declared.part.Part.{Part}
use Rattle.istanbul_rules.specs.File.{file_coverage}
use Rattle.cov_report.specs.declared.answer.SkipCause.{SkipCause}
use Rattle.cov_report.specs.declared.answer.Skip.{Skip}
use Rattle.cov_report.specs.declared.answer.Report.{Report}
use Rattle.cov_report.specs.Wanted.{Wanted, Asked, asked, own_text}

-- ---- one that was asked for, behind those asked for earlier

-- a part, with its path and its text
pub record Placed : Type 0 where
  pub path : List ℕ
  pub text : List ℕ
  pub part : Part

-- its own text, where that is good and the path is this one
abbrev pub text_if : List ℕ → List ℕ → Result (List ℕ) SkipCause → Option (List ℕ)
text_if path own (Ok text) = if same_text own path then Some text else None
text_if path own (Err cause) = None

abbrev pub wanted_text : Files → List ℕ → Result Wanted SkipCause → Option (List ℕ)
wanted_text files path (Ok w) = text_if path w.path (own_text files w.path w.content)
wanted_text files path (Err cause) = None

abbrev pub text_for : Files → List ℕ → Asked → Option (List ℕ)
text_for files path a = wanted_text files path a.wanted

-- the first good text of the path among those asked for
abbrev pub first_text : Files → List ℕ → List Asked → Option (List ℕ)
first_text files path asked = first_of (filter_map (text_for files path) asked)

-- the text of a path that has a part already, or else the own one
abbrev pub text_or : Option (List ℕ) → Result (List ℕ) SkipCause → Result (List ℕ) SkipCause
text_or None own = own
text_or (Some text) own = Ok text

-- the first good text of the path, among those asked for earlier and this one
abbrev pub text_of : Files → List Asked → Wanted → Result (List ℕ) SkipCause
text_of files earlier w = text_or (first_text files w.path earlier) (own_text files w.path w.content)

abbrev pub place : Wanted → List ℕ → Placed
place w text = record { path = w.path; text = text; part = w.part (table_of text) }

abbrev pub placed : Files → List Asked → Wanted → Result Placed SkipCause
placed files earlier w = text_of files earlier w >>= λ text. Ok (place w text)

-- what becomes of it, with its name
pub record Outcome : Type 0 where
  pub name : List ℕ
  pub placed : Result Placed SkipCause

abbrev pub outcome : Files → List Asked → Asked → Outcome
outcome files earlier a = record { name = a.name; placed = a.wanted >>= placed files earlier }

unfoldable pub outcomes : Files → List Asked → List Asked → List Outcome
outcomes files earlier [] = []
outcomes files earlier (a ∷ rest) = outcome files earlier a ∷ outcomes files (earlier ++ a ∷ []) rest

-- ---- all of them

abbrev pub skip_if : List ℕ → Result Placed SkipCause → Option Skip
skip_if name (Ok p) = None
skip_if name (Err cause) = Some (record { name = name; cause = cause })

abbrev pub part_if : Result Placed SkipCause → Option Placed
part_if (Ok p) = Some p
part_if (Err cause) = None

-- the parts of these outcomes, and what they leave out
abbrev pub parts_in : List Outcome → List Placed
parts_in found = filter_map (λ o. part_if o.placed) found

abbrev pub skips_in : List Outcome → List Skip
skips_in found = filter_map (λ o. skip_if o.name o.placed) found

abbrev pub parts_at : List ℕ → List Placed → List Placed
parts_at path ps = filter (λ p. same_text p.path path) ps

-- the file at a path, of its parts in order
abbrev pub file_at : List Placed → List ℕ → FileParts
file_at ps path = file_coverage path (unwrap_or (option_map (λ p. p.text) (first_of (parts_at path ps))) []) (map (λ p. p.part) (parts_at path ps))

-- in byte order of the paths
abbrev pub files_by_path : List Placed → List FileParts
files_by_path ps = map (file_at ps) (in_order text_cmp (map (λ p. p.path) ps))

-- the report of all that is asked for
abbrev pub report_of_asked : Files → List Asked → Report
report_of_asked files asked = record { files = files_by_path (parts_in (outcomes files [] asked)); skips = skips_in (outcomes files [] asked) }

-- the report of the scripts of these snapshots, with these map entries, over these files
unfoldable pub report : List Snapshot → List Said → Files → Report
report snapshots entries files = report_of_asked files (asked (scripts snapshots) entries)
