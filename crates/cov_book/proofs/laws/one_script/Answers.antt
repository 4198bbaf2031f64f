use Rattle.cov_book.proofs.Parts.{joins_in_one, joins_over_two}
use Rattle.cov_book.proofs.laws.one_script.Goals as goal

pub returns-clause-in_one : goal.returns-clause-in_one
returns-clause-in_one c = joins_in_one

pub returns-clause-over_two : goal.returns-clause-over_two
returns-clause-over_two c = joins_over_two
