use Rattle.std.proofs.lemmas.Result.{err_from_is_err_and}
use Rattle.json_pieces.proofs.Steps.{hands-short, front-then, middle-then, three-parts}
use Rattle.json_pieces.proofs.lists.write_list.Goals as goal

pub returns-in_err-put : goal.returns-in_err-put
returns-in_err-put g c =
    let p = err_from_is_err_and c.from_residual.result c.from_residual.ensures.1 in
    rw (p.1, p.2) (hands-short _ _ _ _)

pub returns-in_err-write_parts : goal.returns-in_err-write_parts
returns-in_err-write_parts g c =
    let p = err_from_is_err_and c.from_residual-in_err-write_parts.result c.from_residual-in_err-write_parts.ensures.1 in
    rw (p.1, p.2) (front-then c.args.front.now _ c.args.back.now _ _ _ _ _ _ c.in_ok-put.ensures c.in_err-write_parts.ensures)

pub returns-in_err-put-2 : goal.returns-in_err-put-2
returns-in_err-put-2 g c =
    let p = err_from_is_err_and c.from_residual-in_err-put-2.result c.from_residual-in_err-put-2.ensures.1 in
    rw (p.1, p.2) (middle-then c.args.front.now _ c.args.back.now _ _ _ _ _ _ c.in_ok-put.ensures c.in_ok-write_parts.ensures)

pub returns : goal.returns
returns g c = three-parts c.args.front.now _ c.args.back.now _ _ _ _ _ _ c.in_ok-put.ensures c.in_ok-write_parts.ensures c.in_ok-put-2.ensures
