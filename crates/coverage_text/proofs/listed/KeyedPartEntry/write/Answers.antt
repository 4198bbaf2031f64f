use Rattle.std.proofs.Common.{ap}
use Rattle.std.proofs.lemmas.Result.{err_from_is_err_and}
use Rattle.json_pieces.proofs.Steps.{hands-of, hands-none, hands-short, hands-join}
use Rattle.coverage_text.specs.Parts.{key_text}
use Rattle.coverage_text.proofs.listed.KeyedPartEntry.write.Goals as goal

pub returns-in_err-put_key : goal.returns-in_err-put_key
returns-in_err-put_key g c =
    let p = err_from_is_err_and c.from_residual.result c.from_residual.ensures.1 in
    rw (p.1, p.2) (hands-short _ _ _ _)

pub returns : goal.returns
returns g c =
    let key = g.T.HasKey.key_of c.args.self.now.item.now in
    hands-join (key_text key) _ _ _ _ _ _ _ _ (hands-of _ _ _ _ _ _ _ (ap key_text c.key.ensures) (hands-none (key_text c.key.result.now) _ _ _ c.in_ok-put_key.ensures)) c.write_entry.ensures
