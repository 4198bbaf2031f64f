use Rattle.cov_normal.proofs.Forms.{counts_determine_it, it_is_well_nested}
use Rattle.cov_normal.proofs.laws.one_list.Goals as goal

pub returns-clause-one : goal.returns-clause-one
returns-clause-one c = counts_determine_it

pub returns-clause-nests : goal.returns-clause-nests
returns-clause-nests c = it_is_well_nested
