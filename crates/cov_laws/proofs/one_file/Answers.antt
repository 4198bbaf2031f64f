use Rattle.cov_laws.proofs.OneFile.{one_file}
use Rattle.cov_laws.proofs.Offsets.{is_read}
use Rattle.cov_laws.proofs.one_file.Goals as goal

pub returns-clause-sums : goal.returns-clause-sums
returns-clause-sums c = one_file

pub returns-clause-read : goal.returns-clause-read
returns-clause-read c = is_read
