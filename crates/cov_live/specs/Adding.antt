-- How far snapshots have been added to a book.
use Rattle.std.specs.Prelude.{◌≡◌, ◌++◌, ◌||◌, ℕ, Bool, List}
use Rattle.std.specs.List.{list_any}
use Rattle.cov_model.specs.declared.snapshot.Snapshot.{Snapshot}
use Rattle.cov_model.specs.Outcome.{Reading, accepted, accepted_over, answers, answers_over}
use Rattle.cov_book.specs.declared.book.Book.{Book}
use Rattle.cov_book.specs.Stands.{StandsFor}
use Rattle.cov_commands.specs.Lines.{answer_lines, is_refusal}
use Rattle.cov_live.specs.declared.attach.Refusals.{Refusals}

-- what readings come to: those that were accepted, the lines of the others, and whether there is one
pub record Sums : Type 0 where
  pub held : List Snapshot
  pub lines : List ℕ
  pub refused : Bool

abbrev pub sums_of : List (List ℕ) → List Reading → Sums
sums_of paths readings =
    record { held = accepted readings; lines = answer_lines paths (answers readings); refused = list_any is_refusal (answers readings) }

-- These readings are left, at these paths, and with what was added they come to this.
pub record LeftOf (all : Sums) (paths : List (List ℕ)) (readings : List Reading) (b : Book) (r : Refusals) : Type 0 where
  pub held : List Snapshot
  pub stands : StandsFor b held
  pub book : accepted_over held readings ≡ all.held
  pub lines : r.lines ++ answer_lines paths (answers_over held readings) ≡ all.lines
  pub refused : (r.some || list_any is_refusal (answers_over held readings)) ≡ all.refused
