use Rattle.std.proofs.lemmas.Result.{err_from_is_err_and}
use Rattle.json_pieces.proofs.Steps.{hands-of, hands-none, hands-short}
use Rattle.scripts_text.specs.Parts.{range_text}
use Rattle.scripts_text.proofs.Texts.{range-text}
use Rattle.scripts_text.proofs.writing.RangePartElement.write.Goals as goal

pub returns-in_err-put_range : goal.returns-in_err-put_range
returns-in_err-put_range g c =
    let p = err_from_is_err_and c.from_residual.result c.from_residual.ensures.1 in
    rw (p.1, p.2) (hands-short _ _ _ _)

pub returns : goal.returns
returns g c = hands-of _ _ _ _ _ _ _ (range-text c.args.self.now) (hands-none (range_text c.args.self.now) _ _ _ c.in_ok-put_range.ensures)
