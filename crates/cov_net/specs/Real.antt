-- What the real forms of links and nets mean: they tell no content.
use Rattle.std.specs.Prelude.{ℕ, Bool, Option, None}
use Rattle.cov_io.specs.Links.{LinkState, NetState}
use Rattle.cov_net.specs.declared.socket.SocketLink.{SocketLink}
use Rattle.cov_net.specs.declared.tcp.TcpNet.{TcpNet}

abbrev pub link_closed : {S K : Type 0} → SocketLink S K → Bool
link_closed link = link.closed

abbrev pub link_faults : {S K : Type 0} → SocketLink S K → ℕ
link_faults link = link.faults

abbrev pub untold_link : Bool → LinkState
untold_link closed = record { sent = None; coming = None; closed = closed }

abbrev pub untold_net : {L : Type 0} → Option ℕ → ℕ → NetState L
untold_net port closed = record { coming = None; dialled = None; back = None; port = port; closed = closed }

abbrev pub net_port : {R S L : Type 0} → TcpNet R S L → Option ℕ
net_port net = net.port

abbrev pub net_closed : {R S L : Type 0} → TcpNet R S L → ℕ
net_closed net = net.closed

abbrev pub net_faults : {R S L : Type 0} → TcpNet R S L → ℕ
net_faults net = net.faults
