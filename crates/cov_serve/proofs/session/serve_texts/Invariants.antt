use Rattle.std.specs.Prelude.{◌≡◌}
use Rattle.cov_serve.specs.Going.{Going}
use Rattle.cov_serve.proofs.session.serve_texts.Given as goal

abbrev pub invariant-loop : goal.invariant-loop
invariant-loop g l =
    record {
      going : Going g.N.Show.tape g.N.Show.pace l.fn.seat l.seat (g.L.Link.state l.fn.link) (g.L.Link.state l.link) l.desk l.takes;
      closed : (g.L.Link.state l.link).closed ≡ (g.L.Link.state l.fn.link).closed;
      session : l.seat.session ≡ l.fn.seat.session;
      faults : g.L.Link.faults l.link ≡ g.L.Link.faults l.fn.link;
    }
