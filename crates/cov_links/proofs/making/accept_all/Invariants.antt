use Rattle.std.proofs.Common.{◌≤◌, ◌≡◌, []}
use Rattle.std.specs.Vec.{vec_len, vec_capacity}
use Rattle.cov_links.specs.Together.{Made, net_at, telling}
use Rattle.cov_links.proofs.making.accept_all.Given as goal

-- so many links were made, and there is room for all
abbrev pub invariant-loop-made : goal.invariant-loop-made
invariant-loop-made g l =
    Made (telling g.N.Link.Link.state g.N.Link.Link.faults) [] (net_at (g.N.Net.state l.fn.net) (g.N.Net.faults l.fn.net))
    (net_at (g.N.Net.state l.net) (g.N.Net.faults l.net)) l.links.items
    × (vec_len l.links ≡ l._made)
    × (l.fn.count ≤ vec_capacity l.links)
