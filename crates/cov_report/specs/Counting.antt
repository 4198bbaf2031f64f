-- What a step that reads files of a store leaves of it, and what its count of faults says of the files that were absent.
use Rattle.std.specs.Prelude.{◌≡◌, ◌≤◌, ◌⊎◌, ℕ, List, None, Option, Result, Ok, Err, IfOk, IfErr, IsTrue, IsFalse}
use Rattle.cov_io.specs.Causes.{Rose}
use Rattle.cov_io.specs.Told.{Files}
use Rattle.cov_report.specs.declared.answer.ReportFault.{ReportFault}
use Rattle.cov_report.specs.declared.answer.ReportFault.TheVariants.{Failed}
use Rattle.cov_report.specs.declared.answer.SkipCause.{SkipCause}
use Rattle.cov_report.specs.declared.answer.SkipCause.TheVariants.{NotFile, Absent, TooLong, NotUtf8, BadMap}
use Rattle.cov_report.specs.declared.answer.Skip.{Skip}
use Rattle.cov_report.specs.Skips.{is_absent, has_absent}

-- a store at a moment: the files and folders that it tells, and its count of faults
pub record StoreAt : Type 0 where
  pub files : Option Files
  pub folders : Option (List (List ℕ))
  pub faults : ℕ

abbrev pub store_at : Option Files → Option (List (List ℕ)) → ℕ → StoreAt
store_at files folders faults = record { files = files; folders = folders; faults = faults }

-- A step that only reads: what the store tells stays, its count never falls and says this of what was found, and it rose where the
-- step failed.
pub record Reads {A : Type 0} (before now : StoreAt) (found : A → Type 0) (result : Result A ReportFault) : Type 0 where
  pub counts : IfOk result found
  pub failed : IfErr result (λ fault. fault ≡ Failed → Rose before.faults now.faults)
  pub later : before.faults ≤ now.faults
  pub files : now.files ≡ before.files
  pub folders : now.folders ≡ before.folders

-- For another cause the count stays. Where the file was absent and the store tells nothing, it rose.
pub record CauseCounts (told : Option Files) (before now : ℕ) (cause : SkipCause) : Type 0 where
  pub kept : IsFalse (is_absent cause) → now ≡ before
  pub untold : told ≡ None → IsTrue (is_absent cause) → Rose before now

abbrev pub ReadCounts : {A : Type 0} → Option Files → ℕ → ℕ → Result A SkipCause → Type 0
ReadCounts told before now (Ok found) = now ≡ before
ReadCounts told before now (Err cause) = CauseCounts told before now cause

-- The same of all that was left out since.
pub record HasCounted (told : Option Files) (before now : ℕ) (old new : List Skip) : Type 0 where
  pub kept : IsFalse (has_absent new) → IsFalse (has_absent old) × (now ≡ before)
  pub untold : told ≡ None → IsTrue (has_absent new) → IsTrue (has_absent old) ⊎ Rose before now

-- a step that looks for one text
abbrev pub ReadsText : {A : Type 0} → StoreAt → StoreAt → Result (Result A SkipCause) ReportFault → Type 0
ReadsText before now result = Reads before now (λ own. ReadCounts before.files before.faults now.faults own) result

-- a step that may leave out more
abbrev pub ReadsFiles : {A : Type 0} → StoreAt → StoreAt → List Skip → List Skip → Result A ReportFault → Type 0
ReadsFiles before now old new result = Reads before now (λ done. HasCounted before.files before.faults now.faults old new) result
