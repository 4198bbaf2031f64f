-- The tape of a folder: the accepted ones of its first texts.
use Rattle.std.specs.Prelude.{◌≡◌, ℕ, List, map, length, take}
use Rattle.std.specs.List.{list_any}
use Rattle.cov_io.specs.Told.{Files, names_in}
use Rattle.cov_model.specs.declared.snapshot.Snapshot.{Snapshot}
use Rattle.cov_model.specs.Outcome.{Reading, accepted, answers}
use Rattle.cov_commands.specs.Due.{paths_of, reading_at}
use Rattle.cov_commands.specs.Lines.{answer_lines, is_refusal}
use Rattle.cov_replay.specs.declared.tape.Tape.{Tape}

-- the most texts of a folder that are read
abbrev pub most_texts : ℕ
most_texts = 4294967295

-- the paths of those that are read of the texts among these names of a folder
abbrev pub first_paths : List ℕ → List (List ℕ) → List (List ℕ)
first_paths folder names = take most_texts (paths_of folder names)

abbrev pub first_readings : List ℕ → Files → List (List ℕ) → List Reading
first_readings folder files names = map (reading_at files) (first_paths folder names)

-- the paths of a folder's texts that are read, in byte order of their names, and their readings
abbrev pub tape_paths : List ℕ → Files → List (List ℕ)
tape_paths folder files = first_paths folder (names_in folder files)

abbrev pub tape_readings : List ℕ → Files → List Reading
tape_readings folder files = first_readings folder files (names_in folder files)

-- the snapshots that are played: those that fit with the earlier ones
abbrev pub tape_of : List ℕ → Files → List Snapshot
tape_of folder files = accepted (tape_readings folder files)

-- The texts among these names are on the tape, where they are accepted; the others have their lines.
pub record HasTaped (folder : List ℕ) (files : Files) (names : List (List ℕ)) (t : Tape) : Type 0 where
  pub snapshots : t.snapshots.items ≡ accepted (first_readings folder files names)
  pub lines : t.lines ≡ answer_lines (first_paths folder names) (answers (first_readings folder files names))
  pub refused : t.refused ≡ list_any is_refusal (answers (first_readings folder files names))
  pub texts : t.texts ≡ length (first_paths folder names)
