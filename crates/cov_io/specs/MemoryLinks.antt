-- What the memory forms of links and nets tell.
use Rattle.std.specs.Prelude.{ℕ, false, List, [], drop, map, None, Some}
use Rattle.cov_io.specs.declared.mem_link.SureLink.{SureLink}
use Rattle.cov_io.specs.declared.mem_link.MemLink.{MemLink}
use Rattle.cov_io.specs.declared.mem_link.Prepared.{Prepared}
use Rattle.cov_io.specs.declared.mem_link.MemNet.{MemNet}
use Rattle.cov_io.specs.Fails.{failing_at}
use Rattle.cov_io.specs.Links.{LinkState, NetState}

abbrev pub sure_state : SureLink → LinkState
sure_state link = record { sent = Some link.sent; coming = Some (drop link.received link.texts); closed = link.closed }

-- a link over which these texts come
abbrev pub new_link : List (List ℕ) → SureLink
new_link texts = record { sent = []; texts = texts; received = 0; closed = false }

-- the link that is made of a prepared one
abbrev pub linked : Prepared → MemLink
linked p = record { inner = new_link p.texts; failing = failing_at p.failing }

abbrev pub net_state : MemNet → NetState MemLink
net_state net = record { coming = Some (map linked net.coming.items); dialled = Some net.dialled; back = Some net.back; port = net.port; closed = net.closed }

-- a net that will make these links
abbrev pub new_net : List Prepared → NetState MemLink
new_net prepared = record { coming = Some (map linked prepared); dialled = Some []; back = Some []; port = None; closed = 0 }
