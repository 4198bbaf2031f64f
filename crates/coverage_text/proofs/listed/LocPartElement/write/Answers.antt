use Rattle.std.proofs.lemmas.Result.{err_from_is_err_and}
use Rattle.json_pieces.proofs.Steps.{hands-of, hands-none, hands-short}
use Rattle.coverage_text.specs.Parts.{loc_text}
use Rattle.coverage_text.proofs.Texts.{loc-text}
use Rattle.coverage_text.proofs.listed.LocPartElement.write.Goals as goal

pub returns-in_err-put_loc : goal.returns-in_err-put_loc
returns-in_err-put_loc g c =
    let p = err_from_is_err_and c.from_residual.result c.from_residual.ensures.1 in
    rw (p.1, p.2) (hands-short _ _ _ _)

pub returns : goal.returns
returns g c = hands-of _ _ _ _ _ _ _ (loc-text c.args.self.now) (hands-none (loc_text c.args.self.now) _ _ _ c.in_ok-put_loc.ensures)
