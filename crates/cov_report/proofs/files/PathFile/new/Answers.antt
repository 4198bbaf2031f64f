use Rattle.std.proofs.Common.{ap, ◌∙◌}
use Rattle.utf16_lines.specs.Lines.{table_of}
use Rattle.cov_report.proofs.files.PathFile.new.Goals as goal

pub invariant_of-result : goal.invariant_of-result
invariant_of-result c = record { short = c.requires; made = c.in_ok-table.ensures ∙ ap table_of c.as_text.ensures }
