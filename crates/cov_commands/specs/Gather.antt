-- How far a folder's texts have been taken.
use Rattle.std.specs.Prelude.{◌≡◌, ℕ, List, []}
use Rattle.std.specs.List.{list_any}
use Rattle.cov_model.specs.Outcome.{accepted, answers}
use Rattle.cov_io.specs.Told.{Files}
use Rattle.cov_book.specs.declared.book.Book.{Book}
use Rattle.cov_book.specs.Stands.{StandsFor}
use Rattle.source_maps.specs.Entries.{Said}
use Rattle.cov_report.specs.First.{AreFirsts}
use Rattle.cov_commands.specs.declared.gather.Merged.{Merged}
use Rattle.cov_commands.specs.declared.gather.Maps.{Maps}
use Rattle.cov_commands.specs.declared.gather.Maps.TheVariants.{Kept, Left}
use Rattle.cov_commands.specs.Lines.{answer_lines, is_refusal}
use Rattle.cov_commands.specs.Due.{paths_of, readings_of, entries_at}

-- The texts among these names have been taken: the book stands for the accepted ones, and the others have their lines.
pub record HasTaken (folder : List ℕ) (files : Files) (names : List (List ℕ)) (b : Book) (m : Merged) : Type 0 where
  pub book : StandsFor b (accepted (readings_of folder files names))
  pub lines : m.lines ≡ answer_lines (paths_of folder names) (answers (readings_of folder files names))
  pub refused : m.refused ≡ list_any is_refusal (answers (readings_of folder files names))

-- the map entries, where they are kept
abbrev pub kept_if : Maps → List Said → List Said
kept_if Kept entries = entries
kept_if Left entries = []

-- Of the map entries of the accepted texts among these names the first of each url is kept, or none.
abbrev pub HasKept : Maps → List ℕ → Files → List (List ℕ) → Merged → Type 0
HasKept maps folder files names m = AreFirsts (kept_if maps (entries_at files (paths_of folder names))) m.entries
