-- What is outside of a command that speaks over links.
use Rattle.std.specs.Prelude.{ℕ}
use Rattle.cov_io.specs.Links.{NetState}
use Rattle.cov_links.specs.Together.{NetAt, net_at}
use Rattle.cov_commands.specs.Stores.{StoreAt}

-- a net at a moment: the net itself, and what it tells with its count of faults
pub record LiveNet (N L : Type 0) : Type 0 where
  pub net : N
  pub at : NetAt L

abbrev pub live_net : {N L : Type 0} → N → NetState L → ℕ → LiveNet N L
live_net net state faults = record { net = net; at = net_at state faults }

-- the store and the net
pub record LiveWorld (S N L : Type 0) : Type 0 where
  pub store : StoreAt S
  pub net : LiveNet N L

abbrev pub live_world : {S N L : Type 0} → StoreAt S → LiveNet N L → LiveWorld S N L
live_world store net = record { store = store; net = net }
