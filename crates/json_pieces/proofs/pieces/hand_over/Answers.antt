use Rattle.std.proofs.Common.{◌-◌, ◌%◌}
use Rattle.std.proofs.lemmas.Result.{err_from_is_err_and}
use Rattle.json_pieces.proofs.Steps.{hands-front, hands-part}
use Rattle.json_pieces.proofs.pieces.hand_over.Goals as goal

pub returns-in_err-finish-clause-hands : goal.returns-in_err-finish-clause-hands
returns-in_err-finish-clause-hands g c =
    let p = err_from_is_err_and c.from_residual.result c.from_residual.ensures.1 in
    rw (p.1, p.2) (hands-part c.args.text.now.items c.deref.result.now _ (c.len-all.result - c.len-all.result % 65536) _ _ c.in_err-finish.field-0.0 c.deref.ensures.value c.in_err-finish.ensures)

pub returns-clause-hands : goal.returns-clause-hands
returns-clause-hands g c =
    hands-front c.args.text.now.items c.deref.result.now c.remove_front.new.text.items (c.len-all.result - c.len-all.result % 65536) _ _ c.deref.ensures.value c.in_ok-finish.ensures c.remove_front.ensures
