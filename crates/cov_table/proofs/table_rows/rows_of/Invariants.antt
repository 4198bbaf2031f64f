use Rattle.std.proofs.Common.{◌≡◌, drop, ◌++◌}
use Rattle.std.specs.List.{flat_map}
use Rattle.cov_table.specs.Shares.{summary}
use Rattle.cov_table.specs.Table.{file_row}
use Rattle.cov_table.specs.Adding.{with_files}
use Rattle.cov_table.proofs.table_rows.rows_of.Given as goal

abbrev pub invariant-loop-file : goal.invariant-loop-file
invariant-loop-file l = record {
  text : l.text.items ++ flat_map (file_row l.width) (drop l.file-index l.files) ≡ flat_map (file_row l.width) l.files;
  summary : with_files l.summary (drop l.file-index l.files) ≡ summary l.files;
}
