-- The report of a folder's texts, with its lines.
use Rattle.std.specs.Prelude.{◌≡◌, ℕ, List}
use Rattle.cov_io.specs.Told.{Files}
use Rattle.cov_commands.specs.declared.reporting.Reported.{Reported}
use Rattle.cov_commands.specs.Due.{report_in, report_lines, has_refusal}

-- It is that of the folder.
pub record TellsReport (folder : List ℕ) (files : Files) (r : Reported) : Type 0 where
  pub report : r.report ≡ report_in folder files
  pub lines : r.lines ≡ report_lines folder files
  pub refused : r.refused ≡ has_refusal folder files
