use Rattle.std.proofs.Common.{◌≡◌, IsSome, ap, ◌∙◌, rules}
use Rattle.std.specs.Prelude.{false, is_some}
use Rattle.std.proofs.lemmas.Result.{err_from_is_err_and}
use Rattle.cov_session.specs.Script.{word}
use Rattle.cov_attach.proofs.Ends.{begins, asks, hears_reply, hears_event, ends_done, ends_asking, ends_hearing, none_when}
use Rattle.cov_attach.proofs.session.run_session.Goals as goal

pub loop-init : goal.loop-init
loop-init g c = record {
  way = asks _ _ _ _ _ _ (begins c.args.takes _ _ c.ranges.takes.fits (λ i. record { client = c.new.ensures i; taken = c.new-2.ensures i; received = 0 })) c.in_ok-awaits.ensures.asks;
  waits_is = c.in_ok-awaits.ensures.asks.more;
  faults = c.in_ok-awaits.ensures.cause.kept;
}

pub returns-in_err-awaits-clause-session : goal.returns-in_err-awaits-clause-session
returns-in_err-awaits-clause-session g c =
    let p = err_from_is_err_and c.from_residual.result c.from_residual.ensures.1 in
    rw (p.1, p.2)
    (ends_asking c.args.takes _ (g.L.Link.state c.args.link.now) _ (record { client = c.new.result; taken = c.new-2.result; received = 0 }) c.in_err-awaits.field-0.0
    (begins c.args.takes _ _ c.ranges.takes.fits (λ i. record { client = c.new.ensures i; taken = c.new-2.ensures i; received = 0 }))
    c.in_err-awaits.ensures.asks)

pub returns-then-not-awaits-clause-session : goal.returns-then-not-awaits-clause-session
returns-then-not-awaits-clause-session g c =
    let off : c.loop.awaits ≡ false = search rules in
    ends_done c.args.takes _ _ c.loop.session c.loop.invariant.way (none_when (word c.loop.session.client) c.loop.awaits c.loop.invariant.waits_is off)

pub returns-in_err-hear-clause-session : goal.returns-in_err-hear-clause-session
returns-in_err-hear-clause-session g c =
    let p = err_from_is_err_and c.from_residual-in_err-hear.result c.from_residual-in_err-hear.ensures.1 in
    let some : IsSome (word c.loop.session.client) = search rules in
    rw (p.1, p.2)
    (ends_hearing c.args.takes _ _ _ c.loop.session c.hear.new.self c.in_err-hear.field-0.0 c.loop.invariant.way some c.in_err-hear.ensures.hears)

pub returns-in_err-awaits-2-clause-session : goal.returns-in_err-awaits-2-clause-session
returns-in_err-awaits-2-clause-session g c =
    let p = err_from_is_err_and c.from_residual-in_err-awaits-2.result c.from_residual-in_err-awaits-2.ensures.1 in
    let some : IsSome (word c.loop.session.client) = search rules in
    rw (p.1, p.2)
    (ends_asking c.args.takes _ _ _ c.hear.new.self c.in_err-awaits-2.field-0.0
    (hears_reply c.args.takes _ _ _ c.loop.session c.hear.new.self _ c.loop.invariant.way some c.in_ok-hear.ensures.hears c.if-branch.true)
    c.in_err-awaits-2.ensures.asks)

pub loop-preserved-then-branch : goal.loop-preserved-then-branch
loop-preserved-then-branch g c =
    let some : IsSome (word c.loop.session.client) = search rules in
    record {
      way = asks _ _ _ _ c.hear.new.self _
          (hears_reply c.args.takes _ _ _ c.loop.session c.hear.new.self _ c.loop.invariant.way some c.in_ok-hear.ensures.hears c.if-branch.true)
          c.in_ok-awaits-2.ensures.asks;
      waits_is = c.in_ok-awaits-2.ensures.asks.more;
      faults = c.in_ok-awaits-2.ensures.cause.kept ∙ (c.in_ok-hear.ensures.cause.kept ∙ c.loop.invariant.faults);
    }

pub loop-preserved : goal.loop-preserved
loop-preserved g c =
    let some : IsSome (word c.loop.session.client) = search rules in
    let event = hears_event c.args.takes _ _ _ c.loop.session c.hear.new.self _ c.loop.invariant.way some c.in_ok-hear.ensures.hears c.if-branch.false in
    record {
      way = event.0;
      waits_is = c.loop.invariant.waits_is ∙ ap is_some event.1;
      faults = c.in_ok-hear.ensures.cause.kept ∙ c.loop.invariant.faults;
    }
