use Rattle.cov_live.proofs.Summed.{next-take, no-take}
use Rattle.cov_live.proofs.attach.add_session.Goals as goal

pub loop-number-preserved : goal.loop-number-preserved
loop-number-preserved c =
    λ all paths readings left.
    next-take all c.args.session c.loop-number.number c.args.snapshots.now _ paths readings c.loop-number.book c.add_take.new.book
    c.loop-number.refusals c.add_take.new.refusals c.loop-number-test.true c.index-snapshots-number.is c.in_ok-add_take.ensures.book c.in_ok-add_take.ensures.lines c.in_ok-add_take.ensures.refused
    (c.loop-number.invariant all paths readings left)

pub returns : goal.returns
returns c =
    λ all paths readings left.
    no-take all c.args.session c.loop-number.number c.args.snapshots.now paths readings c.loop-number.book c.loop-number.refusals c.loop-number-test.false
    (c.loop-number.invariant all paths readings left)
