-- What a command does over a store and sinks that never fail.
use Rattle.std.specs.Prelude.{◌≡◌, ◌⊎◌, ◌++◌, ℕ, List, Some}
use Rattle.cov_io.specs.declared.memory.SureStore.{SureStore}
use Rattle.cov_io.specs.declared.memory.SureSink.{SureSink}
use Rattle.cov_io.specs.Memory.{files_of}
use Rattle.cov_commands.specs.declared.ended.Ended.{Ended}
use Rattle.cov_commands.specs.declared.ended.Ended.TheVariants.{NoMemory}
use Rattle.cov_words.specs.declared.command.Command.{Command}
use Rattle.cov_words.specs.Asked.{command_of}
use Rattle.cov_commands.specs.Owed.{Owed}
use Rattle.cov_commands.specs.Stores.{StoreAt, store_at}
use Rattle.cov_commands.specs.Tool.{tool_duty}

-- what such a store tells
abbrev pub sure_store : SureStore → StoreAt SureStore
sure_store store = store_at store (Some (files_of store.files)) (Some store.folders) 0

-- The sinks gained what is due of this command, and it ended as is due.
pub record IsDue (command : Command) (store : SureStore) (out_before out_after err_before err_after : SureSink) (ended : Ended) : Type 0 where
  pub owed : Owed
  pub due : (store_after : StoreAt SureStore) × (tool_duty command).owes (sure_store store) store_after owed
  pub ended_so : ended ≡ owed.ended
  pub out_grown : out_after.bytes ≡ out_before.bytes ++ owed.out
  pub err_grown : err_after.bytes ≡ err_before.bytes ++ owed.err

-- all that a command names is there
abbrev pub HasAll : SureStore → Command → Type 0
HasAll store command = (tool_duty command).missing (sure_store store) → ⊥

-- Where the words are a command and all that it names is there, it gives what is due, or wants memory.
abbrev pub GivesDue : List (List ℕ) → SureStore → SureSink → SureSink → SureSink → SureSink → Ended → Type 0
GivesDue words store out_before out_after err_before err_after ended =
    (command : Command) → command_of words ≡ Some command → HasAll store command
    → (ended ≡ NoMemory) ⊎ IsDue command store out_before out_after err_before err_after ended
