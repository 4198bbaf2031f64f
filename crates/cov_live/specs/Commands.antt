-- What the commands owe that speak over links.
use Rattle.std.specs.Prelude.{◌≡◌, ℕ, List}
use Rattle.cov_links.specs.Together.{NetAt, Telling}
use Rattle.cov_words.specs.declared.command.Live.{Live}
use Rattle.cov_words.specs.declared.command.Live.TheVariants.{Serve, Attach}
use Rattle.cov_commands.specs.Owed.{Duty}
use Rattle.cov_replay.specs.Live.{LiveWorld}
use Rattle.cov_replay.specs.Serving.{playing, serve_duty}
use Rattle.cov_live.specs.Attaching.{attach_duty}

-- what is owed over a net, beside a store that isn't called
abbrev pub over_net : {S N L : Type 0} → Duty (NetAt L) → Duty (LiveWorld S N L)
over_net duty = record {
  owes = λ before now owed. duty.owes before.net.at now.net.at owed × (now.store ≡ before.store);
  missing = λ before. duty.missing before.net.at;
  risen = λ before now. duty.risen before.net.at now.net.at;
}

abbrev pub live_duty : {S N L : Type 0} → Telling L → Live → Duty (LiveWorld S N L)
live_duty tells (Serve folder port sessions pace) = serve_duty tells (playing folder port sessions pace)
live_duty tells (Attach places takes) = over_net (attach_duty tells places takes)
