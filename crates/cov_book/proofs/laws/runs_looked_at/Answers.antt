use Rattle.std.proofs.Common.{refl}
use Rattle.cov_model.proofs.Examples.{cov_on_literals}
use Rattle.cov_book.specs.Cost.{cost_of}
use Rattle.cov_book.proofs.laws.runs_looked_at.Goals as goal

pub returns : goal.returns
unfolding cov_on_literals cost_of
returns c = (refl, refl, refl)
