-- The report of a folder, of what was taken of it.
use Rattle.std.proofs.Common.{◌≡◌, ℕ, List, ◌++◌, map, sym, ap, ap₂, ◌∙◌}
use Rattle.std.proofs.lemmas.Simd.{map-map}
use Rattle.cov_model.specs.declared.snapshot.Snapshot.{Snapshot}
use Rattle.cov_model.specs.Reading.{reading}
use Rattle.cov_model.specs.Outcome.{Reading, accepted, answers}
use Rattle.cov_io.specs.Told.{Files, names_in}
use Rattle.cov_book.specs.declared.book.Book.{Book}
use Rattle.cov_book.specs.Stands.{StandsFor}
use Rattle.source_maps.specs.Entries.{Said}
use Rattle.cov_report.specs.declared.answer.Report.{Report}
use Rattle.cov_report.specs.Report as reports
use Rattle.cov_report.specs.First.{AreFirsts, HaveSameFirsts}
use Rattle.cov_report.proofs.Keeping.{firsts-enough}
use Rattle.cov_report.specs.Texts.{entries_of_taken, report_of_texts, skip_lines}
use Rattle.cov_commands.specs.declared.gather.Merged.{Merged}
use Rattle.cov_commands.specs.declared.gather.Maps.TheVariants.{Kept}
use Rattle.cov_commands.specs.Due.{text_at, text_paths, readings, report_in, entries_at}
use Rattle.cov_commands.specs.Gather.{HasTaken, HasKept}
use Rattle.cov_commands.specs.Reporting.{TellsReport}

-- it is that of the folder
pub is-report-in : (folder : List ℕ) (files : Files) (b : Book) (m : Merged) (given : List Said) (r : Report)
    → HasTaken folder files (names_in folder files) b m → HasKept Kept folder files (names_in folder files) m
    → ((all : List Said) → AreFirsts all m.entries → HaveSameFirsts given all)
    → ((held : List Snapshot) → StandsFor b held → r ≡ reports.report held given files) → r ≡ report_in folder files
unfolding report_in report_of_texts
is-report-in folder files b m given r taken kept same made =
    let paths = text_paths folder files in
    made (accepted (readings folder files)) taken.book
    ∙ firsts-enough (accepted (readings folder files)) given (entries_at files paths) files (same (entries_at files paths) kept)
    ∙ ap (λ (rs : List Reading). reports.report (accepted rs) (entries_of_taken (map (text_at files) paths) (answers rs)) files) (sym (map-map reading (text_at files) paths))

-- and is told with its lines
pub tells-report : (folder : List ℕ) (files : Files) (b : Book) (m : Merged) (r : Report) (written : List ℕ)
    → HasTaken folder files (names_in folder files) b m → r ≡ report_in folder files → written ≡ m.lines ++ skip_lines r.skips
    → TellsReport folder files (record { report = r; lines = written; refused = m.refused })
tells-report folder files b m r written taken is lines =
    record {
      report = is;
      lines = lines ∙ ap₂ (λ (xs : List ℕ) (p : Report). xs ++ skip_lines p.skips) taken.lines is;
      refused = taken.refused;
    }
