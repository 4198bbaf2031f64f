-- What lies under the lock of a batch, as plain data.
use Rattle.std.specs.Prelude.{ℕ, List, Option}
use Rattle.cov_model.specs.declared.sums.Answer.{Answer}
use Rattle.cov_model.specs.Held.{Held}

-- the book's sums, for each place the answer if it has one, and the places in the order in which they were answered
pub record Shelved : Type 0 where
  pub book : Held
  pub answers : List (Option Answer)
  pub order : List ℕ
