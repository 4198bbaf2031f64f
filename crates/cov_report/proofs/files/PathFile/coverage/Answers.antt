use Rattle.std.proofs.Common.{sym, ap, ◌∙◌}
use Rattle.utf16_lines.specs.Lines.{table_of}
use Rattle.cov_report.proofs.files.PathFile.coverage.Goals as goal

pub file_coverage_by-requires-clause-table : goal.file_coverage_by-requires-clause-table
file_coverage_by-requires-clause-table c = c.self.invariant.made ∙ ap table_of (sym c.as_text.ensures)
