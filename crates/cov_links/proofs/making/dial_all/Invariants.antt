use Rattle.std.proofs.Common.{◌≤◌, ◌≡◌, length, take}
use Rattle.std.specs.Vec.{vec_len, vec_capacity}
use Rattle.cov_links.specs.Together.{Made, net_at, telling}
use Rattle.cov_links.proofs.making.dial_all.Given as goal

-- the places so far were dialled, and there is room for all links
abbrev pub invariant-loop-place : goal.invariant-loop-place
invariant-loop-place g l =
    Made (telling g.N.Link.Link.state g.N.Link.Link.faults) (take l.place-index l.fn.places) (net_at (g.N.Net.state l.fn.net) (g.N.Net.faults l.fn.net))
    (net_at (g.N.Net.state l.net) (g.N.Net.faults l.net)) l.links.items
    × (vec_len l.links ≡ l.place-index)
    × (length l.fn.places ≤ vec_capacity l.links)
