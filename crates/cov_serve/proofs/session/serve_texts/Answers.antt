use Rattle.std.proofs.Common.{rules}
use Rattle.cov_serve.proofs.Goes.{going_first}
use Rattle.cov_serve.proofs.session.serve_texts.Goals as goal

pub loop-init : goal.loop-init
loop-init g c = record { going = search (rules, going_first); closed = search rules; session = search rules; faults = search rules }

pub returns-then-not-branch-clause-went : goal.returns-then-not-branch-clause-went
returns-then-not-branch-clause-went g c = (c.in_ok-serve_text.ensures.going c.args.seat.now (g.L.Link.state c.args.link.now) c.loop.invariant.going).went

pub returns-then-not-branch-clause-gains : goal.returns-then-not-branch-clause-gains
returns-then-not-branch-clause-gains g c = (c.in_ok-serve_text.ensures.going c.args.seat.now (g.L.Link.state c.args.link.now) c.loop.invariant.going).gains

pub loop-preserved : goal.loop-preserved
loop-preserved g c =
    record {
      going = c.in_ok-serve_text.ensures.going c.args.seat.now (g.L.Link.state c.args.link.now) c.loop.invariant.going;
      closed = search rules;
      session = search rules;
      faults = search rules;
    }
