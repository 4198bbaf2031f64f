use Rattle.std.proofs.Common.{sym, ap, ◌∙◌, drop, ◌+◌, ◌++◌, ◌∷◌}
use Rattle.std.specs.List.{flat_map}
use Rattle.std.proofs.lemmas.List.{append_assoc, drop_more}
use Rattle.cov_table.specs.Table.{file_row}
use Rattle.cov_table.specs.Adding.{with_files, both, shares_with}
use Rattle.cov_table.proofs.Sums.{row_is}
use Rattle.cov_table.proofs.table_rows.rows_of.Goals as goal

pub loop-file-preserved : goal.loop-file-preserved
loop-file-preserved c =
    let files = c.args.files.now in
    let k = c.loop-file.file-index in
    let f = c.file-item.result in
    let rest = drop (k + 1) files in
    let rows = flat_map (file_row c.args.width) rest in
    let start = c.loop-file.text.items in
    let more = drop_more files k f c.loop-file-test.true ∙ ap (λ x. x ∷ rest) (sym c.file-item.is) in
    let lines = c.deref.ensures.value ∙ c.in_ok-lines.ensures in
    let own = c.with_lines-own.ensures.value ∙ ap (shares_with f) lines in
    let shown = c.with_lines-own.ensures.value ∙ ap (shares_with f) (c.deref.ensures.value ∙ sym c.deref-in-loop-file.ensures.value) in
    record {
      text =
          ap (λ x. x ++ rows) (c.in_ok-put_row.ensures ∙ ap (λ x. start ++ x) (row_is c.args.width f c.path.result.now c.with_lines-own.result c.deref-in-loop-file.result.now c.path.ensures.value (c.deref-in-loop-file.ensures.value ∙ c.in_ok-lines.ensures) shown))
          ∙ append_assoc start (file_row c.args.width f) rows
          ∙ ap (λ x. start ++ flat_map (file_row c.args.width) x) (sym more)
          ∙ c.loop-file.invariant.text;
      summary =
          ap (λ s. with_files s rest) (c.plus-summary.ensures ∙ ap (both c.loop-file.summary) own)
          ∙ ap (with_files c.loop-file.summary) (sym more)
          ∙ c.loop-file.invariant.summary;
    }
