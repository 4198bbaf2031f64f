-- What the commands owe that read folders and files alone, or nothing.
use Rattle.std.specs.Prelude.{◌≡◌, ◌⊎◌, ◌↔◌, ℕ, List, [], Option, unwrap_or}
use Rattle.cov_io.specs.Causes.{Rose}
use Rattle.cov_io.specs.Told.{Files, WhereTold, bytes_at}
use Rattle.cov_model.specs.declared.report.ListForm.{ListForm}
use Rattle.cov_model.specs.declared.report.ListForm.TheVariants.{Nested, Flat}
use Rattle.cov_model.specs.declared.snapshot.Snapshot.{Snapshot}
use Rattle.cov_model.specs.Files.{IsFileIn}
use Rattle.cov_model.specs.Outcome.{accepted}
use Rattle.cov_words.specs.declared.command.Command.{Command}
use Rattle.cov_words.specs.declared.command.Command.TheVariants.{Merge, Same, Normal, Upgrade, Report, Check, Make}
use Rattle.cov_words.specs.declared.command.Form.{Form}
use Rattle.cov_commands.specs.declared.ended.Ended.{Ended}
use Rattle.cov_commands.specs.declared.ended.Ended.TheVariants.{Done, Different, Below, SomeRefused}
use Rattle.cov_commands.specs.Due.{merge_due, same_due, file_due, normal_word, normal_file, report_due, check_due, readings, DifferInSums, DifferInBytes, FolderIsMissing, FileIsMissing}
use Rattle.cov_commands.specs.Counting.{CountsSkips}
use Rattle.cov_commands.specs.Ends.{IsFinished}
use Rattle.cov_commands.specs.Making.{make_duty}
use Rattle.cov_commands.specs.Owed.{Owed, Duty, early}
use Rattle.cov_commands.specs.Stores.{StoreAt, StillTells, Stopped}

-- A command that reads folders and files and nothing else.
pub record Reader : Type 1 where
  -- what is owed where the store tells these files
  pub due : Files → Owed → Type 0
  -- how it may end, over any store
  pub ends : Ended → Type 0
  -- something that it names is absent
  pub absent : Option Files → Option (List (List ℕ)) → Type 0
  -- what the count of the store says of these lines, where it came to its end
  pub counts : Option Files → ℕ → ℕ → List ℕ → Type 0

-- It came to its end: it owes what is due, and ends as it may.
pub record Comes {S : Type 0} (reader : Reader) (before now : StoreAt S) (owed : Owed) : Type 0 where
  pub due : WhereTold before.files (λ files. reader.due files owed)
  pub ends : reader.ends owed.ended
  pub finished : IsFinished owed.ended
  pub there : reader.absent before.files before.folders → ⊥
  pub kept : reader.counts before.files before.faults now.faults owed.err

-- It ended before that, and owes its end alone.
pub record Stops {S : Type 0} (reader : Reader) (before now : StoreAt S) (owed : Owed) : Type 0 where
  pub silent : owed ≡ early owed.ended
  pub why : Stopped (reader.absent before.files before.folders) before now owed.ended

-- It did one or the other, and changed nothing that the store tells.
pub record Reads {S : Type 0} (reader : Reader) (before now : StoreAt S) (owed : Owed) : Type 0 where
  pub either : Comes reader before now owed ⊎ Stops reader before now owed
  pub still : StillTells before now

abbrev pub reading_duty : {S : Type 0} → Reader → Duty (StoreAt S)
reading_duty reader = record {
  owes = λ before now owed. Reads reader before now owed;
  missing = λ before. reader.absent before.files before.folders;
  risen = λ before now. Rose before.faults now.faults;
}

-- ---- each command

-- a text was refused, or none
abbrev pub IsPlainEnd : Ended → Type 0
IsPlainEnd ended = (ended ≡ Done) ⊎ (ended ≡ SomeRefused)

-- the count of the store stays
abbrev pub Stays : Option Files → ℕ → ℕ → List ℕ → Type 0
Stays told before now lines = now ≡ before

abbrev pub merge_reader : List ℕ → Reader
merge_reader folder = record {
  due = λ files owed. owed ≡ merge_due folder files;
  ends = IsPlainEnd;
  absent = λ files folders. FolderIsMissing folders folder;
  counts = Stays;
}

-- `Different` comes exactly where the accepted texts of the two folders come to other sums, and exactly where their merged
-- files are not equal bytes.
pub record OwesSame (one other : List ℕ) (files : Files) (owed : Owed) : Type 0 where
  pub due : owed ≡ same_due one other files
  pub sums : (owed.ended ≡ Different) ↔ DifferInSums (accepted (readings one files)) (accepted (readings other files))
  pub bytes : (owed.ended ≡ Different) ↔ DifferInBytes (accepted (readings one files)) (accepted (readings other files))

abbrev pub same_reader : List ℕ → List ℕ → Reader
same_reader one other = record {
  due = OwesSame one other;
  ends = λ ended. IsPlainEnd ended ⊎ (ended ≡ Different);
  absent = λ files folders. FolderIsMissing folders one ⊎ FolderIsMissing folders other;
  counts = Stays;
}

-- The file has lists of this form exactly where it says `Done`.
pub record OwesFile (form : ListForm) (said : Snapshot → List ℕ) (path : List ℕ) (files : Files) (owed : Owed) : Type 0 where
  pub due : owed ≡ file_due form said path files
  pub accepted : (owed.ended ≡ Done) ↔ IsFileIn form (unwrap_or (bytes_at path files) [])

-- a command of one file
abbrev pub file_reader : ListForm → (Snapshot → List ℕ) → List ℕ → Reader
file_reader form said path = record {
  due = OwesFile form said path;
  ends = IsPlainEnd;
  absent = λ files folders. FileIsMissing files path;
  counts = Stays;
}

abbrev pub normal_reader : List ℕ → Reader
normal_reader = file_reader Nested normal_word

abbrev pub upgrade_reader : List ℕ → Reader
upgrade_reader = file_reader Flat normal_file

abbrev pub report_reader : Form → List ℕ → Reader
report_reader form folder = record {
  due = λ files owed. owed ≡ report_due form folder files;
  ends = IsPlainEnd;
  absent = λ files folders. FolderIsMissing folders folder;
  counts = CountsSkips folder;
}

abbrev pub check_reader : ℕ → ℕ → ℕ → List ℕ → Reader
check_reader lines branches functions folder = record {
  due = λ files owed. owed ≡ check_due lines branches functions folder files;
  ends = λ ended. IsPlainEnd ended ⊎ (ended ≡ Below);
  absent = λ files folders. FolderIsMissing folders folder;
  counts = CountsSkips folder;
}

-- what each command owes
abbrev pub duty_of : {S : Type 0} → Command → Duty (StoreAt S)
duty_of (Merge folder) = reading_duty (merge_reader folder)
duty_of (Same one other) = reading_duty (same_reader one other)
duty_of (Normal path) = reading_duty (normal_reader path)
duty_of (Upgrade path) = reading_duty (upgrade_reader path)
duty_of (Report folder form) = reading_duty (report_reader form folder)
duty_of (Check folder lines branches functions) = reading_duty (check_reader lines branches functions folder)
duty_of (Make seed count) = make_duty seed count

-- the same, where the count is that of the store for each
abbrev pub tool_duty : {S : Type 0} → Command → Duty (StoreAt S)
tool_duty command = record (duty_of command) { risen = λ before now. Rose before.faults now.faults }
