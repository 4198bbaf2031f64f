use Rattle.std.proofs.lemmas.Result.{err_from_is_err_and}
use Rattle.json_pieces.proofs.Elements.{one-more, none-more}
use Rattle.json_pieces.proofs.Steps.{hands-short, waits-none, waits-last, waits-more, waits-broken, waits-stops, waits-done}
use Rattle.json_pieces.proofs.lists.write_parts.Goals as goal

pub loop-place-init : goal.loop-place-init
loop-place-init g c = waits-none _ _ _

pub returns-in_err-put_comma : goal.returns-in_err-put_comma
returns-in_err-put_comma g c =
    let p = err_from_is_err_and c.from_residual.result c.from_residual.ensures.1 in
    rw (p.1, p.2) (waits-last _ _ _ _ _ _ _ _ _ c.loop-place.invariant (hands-short _ _ _ _))

pub returns-in_err-write : goal.returns-in_err-write
returns-in_err-write g c =
    let p = err_from_is_err_and c.from_residual-in_err-write.result c.from_residual-in_err-write.ensures.1 in
    let is = one-more g.T.Part.text_at c.args.parts.now c.loop-place.place c.index-parts-place.result c.loop-place-test.true c.index-parts-place.is in
    rw (p.1, p.2) (waits-broken _ _ _ _ _ _ _ _ _ _ _ _ _ c.loop-place.invariant is c.in_ok-put_comma.ensures c.in_err-write.ensures)

pub returns-in_err-hand_over : goal.returns-in_err-hand_over
returns-in_err-hand_over g c =
    let p = err_from_is_err_and c.from_residual-in_err-hand_over.result c.from_residual-in_err-hand_over.ensures.1 in
    let is = one-more g.T.Part.text_at c.args.parts.now c.loop-place.place c.index-parts-place.result c.loop-place-test.true c.index-parts-place.is in
    rw (p.1, p.2) (waits-stops _ _ _ _ _ _ _ _ _ _ _ _ _ _ _ c.loop-place.invariant is c.in_ok-put_comma.ensures c.in_ok-write.ensures c.in_err-hand_over.ensures.hands)

pub loop-place-preserved : goal.loop-place-preserved
loop-place-preserved g c =
    let is = one-more g.T.Part.text_at c.args.parts.now c.loop-place.place c.index-parts-place.result c.loop-place-test.true c.index-parts-place.is in
    waits-more _ _ _ _ _ _ _ _ _ _ _ _ _ _ c.loop-place.invariant is c.in_ok-put_comma.ensures c.in_ok-write.ensures c.in_ok-hand_over.ensures.hands

pub returns : goal.returns
returns g c = waits-done _ _ _ _ _ _ c.loop-place.invariant (none-more g.T.Part.text_at c.args.parts.now c.loop-place.place c.loop-place-test.false)
