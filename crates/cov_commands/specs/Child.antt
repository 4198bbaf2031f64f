-- What `run` owes: a program is run to its end, and then the folder's report is owed, whatever the program's status is.
use Rattle.std.specs.Prelude.{◌≡◌, ◌⊎◌, ◌≤◌, ◌++◌, ◌==◌, ℕ, List, [], ◌∷◌, Option, Some, if◌then◌else◌, codes}
use Rattle.cov_io.specs.Causes.{Rose}
use Rattle.cov_io.specs.Lists.{ending_with}
use Rattle.cov_words.specs.declared.command.Run.{Run}
use Rattle.cov_commands.specs.declared.ended.Ended.{Ended}
use Rattle.cov_commands.specs.declared.ended.Ended.TheVariants.{Done, Different, Below, Usage, SomeRefused, ReadFault, WriteFault, SpawnFault, LinkFault, PeerFault, Child, NoMemory}
use Rattle.cov_commands.specs.Due.{FolderIsMissing}
use Rattle.cov_commands.specs.Owed.{Owed, Duty, early}
use Rattle.cov_commands.specs.Stores.{StoreAt}
use Rattle.cov_commands.specs.Tool.{Reads, report_reader}

-- what runs programs, at a moment: the object itself, the lists of words that it tells it ran, the status of the last program that
-- it ran to its end, and its count of faults
pub record SpawnerAt (P : Type 0) : Type 0 where
  pub spawner : P
  pub ran : Option (List (List (List ℕ)))
  pub last : Option ℕ
  pub faults : ℕ

abbrev pub spawner_at : {P : Type 0} → P → Option (List (List (List ℕ))) → Option ℕ → ℕ → SpawnerAt P
spawner_at spawner ran last faults = record { spawner = spawner; ran = ran; last = last; faults = faults }

-- what is outside of the command
pub record ChildWorld (S P : Type 0) : Type 0 where
  pub store : StoreAt S
  pub spawner : SpawnerAt P

abbrev pub child_world : {S P : Type 0} → StoreAt S → SpawnerAt P → ChildWorld S P
child_world store spawner = record { store = store; spawner = spawner }

-- ---- the program

-- its words: `env` starts it, with the variable by which Node.js writes its coverage into the folder
abbrev pub child_words : Run → List (List ℕ)
child_words command = codes "env" ∷ (codes "NODE_V8_COVERAGE=" ++ command.folder) ∷ command.words

-- These words were run to their end, once, and ended with this status.
pub record HasRun {P : Type 0} (words : List (List ℕ)) (before now : SpawnerAt P) (status : ℕ) : Type 0 where
  pub ran : now.ran ≡ ending_with words before.ran
  pub last : now.last ≡ Some status
  pub kept : now.faults ≡ before.faults

-- They weren't, and the command ends so. They may have been started, once.
pub record HasNotRun {P : Type 0} (words : List (List ℕ)) (before now : SpawnerAt P) (ended : Ended) : Type 0 where
  pub only : (ended ≡ SpawnFault) ⊎ (ended ≡ NoMemory)
  pub rose : ended ≡ SpawnFault → Rose before.faults now.faults
  pub ran : (now.ran ≡ before.ran) ⊎ (now.ran ≡ ending_with words before.ran)
  pub last : now.last ≡ before.last
  pub later : before.faults ≤ now.faults

-- ---- what is owed

-- how it ends where the program's status isn't 0: with this status, where it has come to its end
abbrev pub ended_as : ℕ → Ended → Ended
ended_as status Done = Child status
ended_as status Different = Different
ended_as status Below = Below
ended_as status Usage = Usage
ended_as status SomeRefused = Child status
ended_as status ReadFault = ReadFault
ended_as status WriteFault = WriteFault
ended_as status SpawnFault = SpawnFault
ended_as status LinkFault = LinkFault
ended_as status (PeerFault session message) = PeerFault session message
ended_as status (Child n) = Child n
ended_as status NoMemory = NoMemory

abbrev pub child_end : ℕ → Ended → Ended
child_end status ended = if status == 0 then ended else ended_as status ended

-- The program wasn't run to its end. The store was not called.
pub record Unstarted {S P : Type 0} (command : Run) (before now : ChildWorld S P) (owed : Owed) : Type 0 where
  pub silent : owed ≡ early owed.ended
  pub why : HasNotRun (child_words command) before.spawner now.spawner owed.ended
  pub store : now.store ≡ before.store

-- It was, and the report of the folder is owed, as the store then tells it, with the program's status.
pub record Reported {S P : Type 0} (command : Run) (before now : ChildWorld S P) (owed : Owed) : Type 0 where
  pub status : ℕ
  pub run : HasRun (child_words command) before.spawner now.spawner status
  pub report : Owed
  pub reads : Reads (report_reader command.form command.folder) before.store now.store report
  pub is : owed ≡ record report { ended = child_end status report.ended }

abbrev pub child_duty : {S P : Type 0} → Run → Duty (ChildWorld S P)
child_duty command = record {
  owes = λ before now owed. Unstarted command before now owed ⊎ Reported command before now owed;
  missing = λ before. FolderIsMissing before.store.folders command.folder;
  risen = λ before now. Rose before.store.faults now.store.faults ⊎ Rose before.spawner.faults now.spawner.faults;
}
