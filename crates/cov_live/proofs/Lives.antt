-- What the commands come to that speak over links.
use Rattle.std.proofs.Common.{◌≡◌, ℕ, List, refl, subst, sym}
use Rattle.cov_links.specs.Together.{NetAt, Telling}
use Rattle.cov_words.specs.declared.command.Live.{Live}
use Rattle.cov_words.specs.declared.command.Live.TheVariants.{Serve, Attach}
use Rattle.cov_commands.specs.declared.ended.Ended.{Ended}
use Rattle.cov_commands.specs.Call.{Moment, Runs, moment}
use Rattle.cov_commands.specs.Owed.{Duty}
use Rattle.cov_commands.specs.Sinks.{SinkAt}
use Rattle.cov_commands.proofs.Calls.{IsLawful}
use Rattle.cov_replay.specs.Live.{LiveWorld}
use Rattle.cov_replay.specs.Serving.{playing, serve_duty}
use Rattle.cov_replay.proofs.Lawful.{serve-lawful}
use Rattle.cov_live.specs.Attaching.{attach_duty}
use Rattle.cov_live.specs.Commands.{live_duty, over_net}
use Rattle.cov_live.proofs.Attached.{attach-lawful}

over-lawful : {S N L : Type 0} (duty : Duty (NetAt L)) → IsLawful duty → IsLawful (over_net {S = S} {N = N} duty)
over-lawful duty law = record {
  absent = λ before now owed owes missing. law.absent before.net.at now.net.at owed owes.0 missing;
  complete = λ before now owed owes there still. law.complete before.net.at now.net.at owed owes.0 there still;
  read = λ before now owed owes is. law.read before.net.at now.net.at owed owes.0 is;
  unwritten = λ before now owed owes is. law.unwritten before.net.at now.net.at owed owes.0 is;
  taken = λ before now owed owes is. law.taken before.net.at now.net.at owed owes.0 is;
  short = λ world. (law.short world.net.at, refl);
}

pub live-lawful : {S N L : Type 0} (tells : Telling L) (command : Live) → IsLawful (live_duty {S = S} {N = N} tells command)
live-lawful tells (Serve folder port sessions pace) = serve-lawful tells (playing folder port sessions pace)
live-lawful tells (Attach places takes) = over-lawful (attach_duty tells places takes) (attach-lawful tells places takes)

-- the store was not called
pub runs-over : {S N L O E : Type 0} (duty : Duty (NetAt L)) (before now : LiveWorld S N L) (out_before out_now : SinkAt O) (err_before err_now : SinkAt E) (ended : Ended)
    → now.store ≡ before.store → Runs duty (moment before.net.at out_before err_before) (moment now.net.at out_now err_now) ended
    → Runs (over_net duty) (moment before out_before err_before) (moment now out_now err_now) ended
runs-over duty before now out_before out_now err_before err_now ended same runs = record { owed = runs.owed; owes = (runs.owes, same); puts = runs.puts }

-- what `serve` did for a folder, under another name of it
pub runs-named : {S N L O E : Type 0} (tells : Telling L) (folder other : List ℕ) (port sessions pace : ℕ) (before now : Moment (LiveWorld S N L) O E) (ended : Ended)
    → folder ≡ other → Runs (serve_duty tells (playing folder port sessions pace)) before now ended → Runs (serve_duty tells (playing other port sessions pace)) before now ended
runs-named tells folder other port sessions pace before now ended is runs =
    subst (λ (f : List ℕ). Runs (serve_duty tells (playing f port sessions pace)) before now ended) is runs

-- and of the command that asked for it
pub runs-served : {S N L O E : Type 0} (tells : Telling L) (command : Live) (folder other : List ℕ) (port sessions pace : ℕ) (before now : Moment (LiveWorld S N L) O E) (ended : Ended)
    → command ≡ Serve other port sessions pace → folder ≡ other → Runs (serve_duty tells (playing folder port sessions pace)) before now ended
    → Runs (live_duty tells command) before now ended
runs-served tells command folder other port sessions pace before now ended asked is runs =
    subst (λ (c : Live). Runs (live_duty tells c) before now ended) (sym asked) (runs-named tells folder other port sessions pace before now ended is runs)
