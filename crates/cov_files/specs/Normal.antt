-- What is read of the bytes of a normal or a flat file, and why bytes are none.
use Rattle.std.specs.Prelude.{◌<◌, ℕ, List, [], ◌∷◌, length}
use Rattle.cov_text.specs.Listing.{max_text}
use Rattle.cov_model.specs.declared.report.ListForm.{ListForm}
use Rattle.cov_model.specs.declared.snapshot.Snapshot.{Snapshot}
use Rattle.cov_model.specs.Files.{IsFileIn, IsFileOf}
use Rattle.cov_model.specs.Held.{Held}
use Rattle.cov_book.specs.Stands.{StandsFor}
use Rattle.cov_files.specs.declared.normal.NormalFault.{NormalFault}
use Rattle.cov_files.specs.declared.normal.NormalFault.TheVariants.{TooLong, NotNormal, NoMemory}

-- The bytes are a file with lists of this form, and the book stands for the one snapshot that they are read as.
pub record IsReadFrom (form : ListForm) (book : Held) (bytes : List ℕ) : Type 0 where
  pub snapshot : Snapshot
  pub normal : IsFileOf form snapshot bytes
  pub stands : StandsFor book (snapshot ∷ [])

-- why the bytes weren't read: they are too long, or no such file, or memory ran out
abbrev pub TellsWhy : ListForm → NormalFault → List ℕ → Type 0
TellsWhy form TooLong bytes = max_text < length bytes
TellsWhy form NotNormal bytes = ¬ IsFileIn form bytes
TellsWhy form NoMemory bytes = Unit {0}
