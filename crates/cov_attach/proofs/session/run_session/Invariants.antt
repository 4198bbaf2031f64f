use Rattle.cov_attach.proofs.Ends.{IsStanding}
use Rattle.cov_attach.proofs.session.run_session.Given as goal

abbrev pub invariant-loop : goal.invariant-loop
invariant-loop g l =
    IsStanding l.fn.takes (g.L.Link.state l.fn.link) (g.L.Link.state l.link) (g.L.Link.faults l.fn.link) (g.L.Link.faults l.link) l.session l.awaits
