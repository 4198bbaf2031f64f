use Rattle.std.proofs.Common.{refl}
use Rattle.cov_live.proofs.Summed.{no-session}
use Rattle.cov_live.proofs.attach.due_of.Goals as goal

pub returns : goal.returns
returns c =
    no-session c.loop-session.session c.args.taken.now c.loop-session.book c.loop-session.refusals _ c.loop-session-test.false c.loop-session.invariant
    (λ held stands. c.in_ok-out.ensures held stands) refl c.refused_or_done.ensures
