use Rattle.cov_links.specs.Together.{net_at, telling}
use Rattle.cov_links.proofs.Steps.{IsReturning}
use Rattle.cov_links.proofs.back.hang_up_all.Given as goal

abbrev pub invariant-loop-link : goal.invariant-loop-link
invariant-loop-link g l =
    IsReturning (telling g.N.Link.Link.state g.N.Link.Link.faults) l.yielded (net_at (g.N.Net.state l.fn.net) (g.N.Net.faults l.fn.net)) (net_at (g.N.Net.state l.net) (g.N.Net.faults l.net)) l.listed
