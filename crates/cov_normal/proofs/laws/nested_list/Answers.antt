use Rattle.cov_normal.proofs.Counting.{it_counts, it_is_nested, two_are_one}
use Rattle.cov_normal.proofs.laws.nested_list.Goals as goal

pub returns-clause-counts : goal.returns-clause-counts
returns-clause-counts c = it_counts

pub returns-clause-own : goal.returns-clause-own
returns-clause-own c = it_is_nested

pub returns-clause-no_other : goal.returns-clause-no_other
returns-clause-no_other c = two_are_one
