use Rattle.std.proofs.Common.{◌≡◌, drop, map}
use Rattle.std.specs.Prelude.{fold, max}
use Rattle.cov_table.specs.Table.{shown_width, width_of}
use Rattle.cov_table.proofs.table_rows.width_of.Given as goal

abbrev pub invariant-loop-file : goal.invariant-loop-file
invariant-loop-file l = fold max l.width (map (λ f. shown_width f.path) (drop l.file-index l.files)) ≡ width_of l.files
