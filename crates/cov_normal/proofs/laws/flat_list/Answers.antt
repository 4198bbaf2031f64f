use Rattle.cov_normal.proofs.One.{there_is_one, there_is_no_other}
use Rattle.cov_normal.proofs.laws.flat_list.Goals as goal

pub returns-clause-one : goal.returns-clause-one
returns-clause-one c = there_is_one

pub returns-clause-no_other : goal.returns-clause-no_other
returns-clause-no_other c = there_is_no_other
