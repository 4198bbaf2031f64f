use Rattle.cov_steps.proofs.Rooted.{runs_count}
use Rattle.cov_steps.proofs.laws.runs_of_a_report.Goals as goal

pub returns : goal.returns
returns c = runs_count
