use Rattle.cov_laws.proofs.ReadBack as law
use Rattle.cov_laws.proofs.read_back.Goals as goal

pub returns : goal.returns
returns c = law.read_back
