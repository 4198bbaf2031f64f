-- What a collector has, as plain data.
use Rattle.std.specs.Prelude.{ℕ, List}
use Rattle.cov_model.specs.declared.sums.Answer.{Answer}
use Rattle.cov_model.specs.Held.{Held}

-- the sums of the texts that were taken, the answers to these, and the texts that wait
pub record Collecting : Type 0 where
  pub book : Held
  pub answers : List Answer
  pub waiting : List (List ℕ)
