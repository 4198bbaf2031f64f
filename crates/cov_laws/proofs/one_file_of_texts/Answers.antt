use Rattle.cov_laws.proofs.OfTexts.{accepted_read, one_file_of_texts}
use Rattle.cov_laws.proofs.one_file_of_texts.Goals as goal

pub returns-clause-sums : goal.returns-clause-sums
returns-clause-sums c = one_file_of_texts

pub returns-clause-read : goal.returns-clause-read
returns-clause-read c = accepted_read
