use Rattle.cov_steps.proofs.Adding.{sums_count, sums_commute, sums_associate}
use Rattle.cov_steps.proofs.laws.sums.Goals as goal

pub returns-clause-count : goal.returns-clause-count
returns-clause-count c = sums_count

pub returns-clause-commute : goal.returns-clause-commute
returns-clause-commute c = sums_commute

pub returns-clause-associate : goal.returns-clause-associate
returns-clause-associate c = sums_associate
