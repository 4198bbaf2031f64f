-- The report of the texts of a folder: of the accepted ones, with their map entries.
use Rattle.std.specs.Prelude.{ℕ, List, [], ◌∷◌, ◌++◌, map, flat_map, Result, Ok, Err, codes}
use Rattle.cov_text.specs.Listing.{cleaned}
use Rattle.cov_model.specs.declared.snapshot.TextFault.{TextFault}
use Rattle.cov_model.specs.declared.sums.Answer.{Answer}
use Rattle.cov_model.specs.declared.sums.Answer.TheVariants.{Taken, Bad, Past}
use Rattle.cov_model.specs.Reading.{reading}
use Rattle.cov_model.specs.Outcome.{accepted, answers}
use Rattle.cov_io.specs.Told.{Files}
use Rattle.cov_files.specs.Maps.{maps_reading}
use Rattle.source_maps.specs.Entries.{Said}
use Rattle.cov_report.specs.declared.answer.SkipCause.{SkipCause}
use Rattle.cov_report.specs.declared.answer.SkipCause.TheVariants.{NotFile, Absent, TooLong, NotUtf8, BadMap}
use Rattle.cov_report.specs.declared.answer.Skip.{Skip}
use Rattle.cov_report.specs.declared.answer.Report.{Report}
use Rattle.cov_report.specs.Report.{report}

abbrev pub entries_or_none : Result (List Said) TextFault → List Said
entries_or_none (Ok entries) = entries
entries_or_none (Err fault) = []

-- the entries of a text that was taken
abbrev pub entries_if_taken : List ℕ → Answer → List Said
entries_if_taken bytes Taken = entries_or_none (maps_reading bytes)
entries_if_taken bytes (Bad fault) = []
entries_if_taken bytes (Past fault) = []

-- the entries of the texts that were taken, text by text
unfoldable pub entries_of_taken : List (List ℕ) → List Answer → List Said
entries_of_taken [] given = []
entries_of_taken (bytes ∷ texts) [] = []
entries_of_taken (bytes ∷ texts) (answer ∷ given) = entries_if_taken bytes answer ++ entries_of_taken texts given

-- the report of texts, in order, over files
unfoldable pub report_of_texts : List (List ℕ) → Files → Report
report_of_texts texts files =
    let readings = map reading texts in
    report (accepted readings) (entries_of_taken texts (answers readings)) files

-- ---- the lines of what is left out

abbrev pub cause_text : SkipCause → List ℕ
cause_text NotFile = codes "not a file"
cause_text Absent = codes "absent"
cause_text TooLong = codes "too long"
cause_text NotUtf8 = codes "not UTF-8"
cause_text BadMap = codes "bad map"

abbrev pub skip_line : Skip → List ℕ
skip_line s = codes "skipped " ++ (cleaned s.name ++ (codes ": " ++ (cause_text s.cause ++ 10 ∷ [])))

abbrev pub skip_lines : List Skip → List ℕ
skip_lines skips = flat_map skip_line skips
