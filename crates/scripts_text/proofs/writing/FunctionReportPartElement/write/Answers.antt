use Rattle.std.proofs.lemmas.Result.{err_from_is_err_and}
use Rattle.json_pieces.proofs.Steps.{hands-of, hands-none, hands-short, hands-join}
use Rattle.scripts_text.specs.Parts.{before_ranges}
use Rattle.scripts_text.proofs.Texts.{report-text}
use Rattle.scripts_text.proofs.writing.FunctionReportPartElement.write.Goals as goal

pub returns-in_err-put_before_ranges : goal.returns-in_err-put_before_ranges
returns-in_err-put_before_ranges g c =
    let p = err_from_is_err_and c.from_residual.result c.from_residual.ensures.1 in
    rw (p.1, p.2) (hands-short _ _ _ _)

pub returns : goal.returns
returns g c =
    hands-of _ _ _ _ _ _ _ (report-text c.args.self.now c.as_slice.result.now c.as_slice.ensures)
    (hands-join (before_ranges c.args.self.now) _ _ _ _ _ _ _ _ (hands-none (before_ranges c.args.self.now) _ _ _ c.in_ok-put_before_ranges.ensures) c.write_list.ensures)
