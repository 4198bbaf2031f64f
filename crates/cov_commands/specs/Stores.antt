-- What a step over a store leaves of it, and why it stops.
use Rattle.std.specs.Prelude.{◌≡◌, ◌≤◌, ◌⊎◌, ℕ, List, Option}
use Rattle.cov_io.specs.Causes.{Rose}
use Rattle.cov_io.specs.Told.{Files}
use Rattle.cov_commands.specs.declared.ended.Ended.{Ended}
use Rattle.cov_commands.specs.declared.ended.Ended.TheVariants.{ReadFault, NoMemory}

-- a store at a moment: the store itself, the files and folders that it tells, and its count of faults
pub record StoreAt (S : Type 0) : Type 0 where
  pub store : S
  pub files : Option Files
  pub folders : Option (List (List ℕ))
  pub faults : ℕ

abbrev pub store_at : {S : Type 0} → S → Option Files → Option (List (List ℕ)) → ℕ → StoreAt S
store_at store files folders faults = record { store = store; files = files; folders = folders; faults = faults }

-- The store tells what it told, and its count has not fallen.
pub record StillTells {S : Type 0} (before now : StoreAt S) : Type 0 where
  pub files : now.files ≡ before.files
  pub folders : now.folders ≡ before.folders
  pub later : before.faults ≤ now.faults

-- A step ended early: it wanted memory, or a read failed, which comes only where the count rose or this is absent.
pub record Stopped {S : Type 0} (absent : Type 0) (before now : StoreAt S) (ended : Ended) : Type 0 where
  pub only : (ended ≡ ReadFault) ⊎ (ended ≡ NoMemory)
  pub read : ended ≡ ReadFault → Rose before.faults now.faults ⊎ absent
