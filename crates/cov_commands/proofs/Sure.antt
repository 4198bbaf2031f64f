-- A command over a store and sinks that never fail.
use Rattle.std.proofs.Common.{◌≡◌, ℕ, List, refl, arith, inl, inr}
use Rattle.std.specs.Prelude.{◌⊎◌, Some}
use Rattle.cov_io.specs.Causes.{Rose}
use Rattle.cov_io.specs.declared.memory.SureStore.{SureStore}
use Rattle.cov_io.specs.declared.memory.SureSink.{SureSink}
use Rattle.cov_words.specs.Asked.{command_of}
use Rattle.cov_commands.specs.declared.ended.Ended.{Ended}
use Rattle.cov_commands.specs.declared.ended.Ended.TheVariants.{Done, Different, Below, Usage, SomeRefused, ReadFault, WriteFault, SpawnFault, LinkFault, PeerFault, Child, NoMemory}
use Rattle.cov_commands.specs.Ends.{IsFinished, IsFinishedOrShort}
use Rattle.cov_commands.specs.Sinks.{SinkAt, sink_at}
use Rattle.cov_commands.specs.Call.{Call, moment}
use Rattle.cov_commands.specs.Tool.{tool_duty}
use Rattle.cov_commands.specs.Sure.{GivesDue, sure_store}

finished_or_short : (ended : Ended) → IsFinishedOrShort ended → (ended ≡ NoMemory) ⊎ IsFinished ended
finished_or_short Done h = inr tt
finished_or_short Different h = inr tt
finished_or_short Below h = inr tt
finished_or_short Usage h = absurd h
finished_or_short SomeRefused h = inr tt
finished_or_short ReadFault h = absurd h
finished_or_short WriteFault h = absurd h
finished_or_short SpawnFault h = absurd h
finished_or_short LinkFault h = absurd h
finished_or_short (PeerFault session message) h = absurd h
finished_or_short (Child status) h = inr tt
finished_or_short NoMemory h = inl refl

not_risen : Rose 0 0 → ⊥
not_risen rose = omega (arith, rose)

abbrev pub sure_sink : SureSink → SinkAt SureSink
sure_sink sink = sink_at sink (Some sink.bytes) (Some sink.longest) 0

pub gives_due : (words : List (List ℕ)) (store store_after : SureStore) (out_before out_after err_before err_after : SureSink) (ended : Ended)
    → Call tool_duty (command_of words) (moment (sure_store store) (sure_sink out_before) (sure_sink err_before))
    (moment (sure_store store_after) (sure_sink out_after) (sure_sink err_after)) ended
    → GivesDue words store out_before out_after err_before err_after ended
gives_due words store store_after out_before out_after err_before err_after ended call command is there =
    let ran = call.ran command is in
    elim (finished_or_short ended (ran.complete there not_risen not_risen not_risen)) [
      | inl short ↦ inl short
      | inr finished ↦
          let done = ran.done finished in
          inr (record {
            owed = ran.owed;
            due = (sure_store store_after, ran.owes);
            ended_so = done.0;
            out_grown = done.1;
            err_grown = done.2;
          })
    ]
