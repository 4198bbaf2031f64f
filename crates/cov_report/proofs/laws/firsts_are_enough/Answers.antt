use Rattle.cov_report.proofs.Keeping.{firsts-enough}
use Rattle.cov_report.proofs.laws.firsts_are_enough.Goals as goal

pub returns : goal.returns
returns c = firsts-enough
