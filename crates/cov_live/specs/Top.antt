-- What the top call is: the call that the first word names.
use Rattle.std.specs.Prelude.{◌≡◌, ℕ, List}
use Rattle.cov_links.specs.Together.{Telling}
use Rattle.cov_words.specs.declared.command.Group.TheVariants as group
use Rattle.cov_words.specs.Asked.{command_of}
use Rattle.cov_words.specs.Child.{run_of}
use Rattle.cov_words.specs.Groups.{group_of, collect_of}
use Rattle.cov_words.specs.Live.{live_of}
use Rattle.cov_commands.specs.declared.ended.Ended.{Ended}
use Rattle.cov_commands.specs.Call.{Call, Moment, moment}
use Rattle.cov_commands.specs.Child.{ChildWorld, SpawnerAt, child_duty, child_world}
use Rattle.cov_commands.specs.Collect.{collect_duty}
use Rattle.cov_commands.specs.Stores.{StoreAt}
use Rattle.cov_commands.specs.Tool.{tool_duty}
use Rattle.cov_replay.specs.Live.{LiveNet, LiveWorld, live_world}
use Rattle.cov_live.specs.Commands.{live_duty}

-- all that is outside: a store, a net, and what runs programs
pub record Outside (S N L P : Type 0) : Type 0 where
  pub store : StoreAt S
  pub net : LiveNet N L
  pub spawner : SpawnerAt P

abbrev pub outside : {S N L P : Type 0} → StoreAt S → LiveNet N L → SpawnerAt P → Outside S N L P
outside store net spawner = record { store = store; net = net; spawner = spawner }

-- what of it each call sees
abbrev pub seen_store : {S N L P O E : Type 0} → Moment (Outside S N L P) O E → Moment (StoreAt S) O E
seen_store m = moment m.world.store m.out m.err

abbrev pub seen_live : {S N L P O E : Type 0} → Moment (Outside S N L P) O E → Moment (LiveWorld S N L) O E
seen_live m = moment (live_world m.world.store m.world.net) m.out m.err

abbrev pub seen_child : {S N L P O E : Type 0} → Moment (Outside S N L P) O E → Moment (ChildWorld S P) O E
seen_child m = moment (child_world m.world.store m.world.spawner) m.out m.err

-- Each group of commands has its own call, whose `Usage` goes by the commands of this group alone.
pub record CallNamed {S N L P O E : Type 0} (tells : Telling L) (words : List (List ℕ)) (before now : Moment (Outside S N L P) O E) (ended : Ended) : Type 0 where
  pub readers : group_of words ≡ group.Readers → Call tool_duty (command_of words) (seen_store before) (seen_store now) ended
  pub workers : group_of words ≡ group.Workers → Call collect_duty (collect_of words) (seen_store before) (seen_store now) ended
  pub live : group_of words ≡ group.Live → Call (live_duty tells) (live_of words) (seen_live before) (seen_live now) ended
  pub child : group_of words ≡ group.Child → Call child_duty (run_of words) (seen_child before) (seen_child now) ended
  -- no other group calls the net
  pub unlinked : (group_of words ≡ group.Live → ⊥) → now.world.net ≡ before.world.net
  -- no other group runs a program
  pub unspawned : (group_of words ≡ group.Child → ⊥) → now.world.spawner ≡ before.world.spawner
