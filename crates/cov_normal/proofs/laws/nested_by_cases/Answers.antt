use Rattle.cov_normal.proofs.Counting.{it_is_by_cases, no_other_is}
use Rattle.cov_normal.proofs.laws.nested_by_cases.Goals as goal

pub returns-clause-cases : goal.returns-clause-cases
returns-clause-cases c = it_is_by_cases

pub returns-clause-no_other : goal.returns-clause-no_other
returns-clause-no_other c = no_other_is
