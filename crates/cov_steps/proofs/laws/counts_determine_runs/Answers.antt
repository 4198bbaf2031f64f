use Rattle.cov_steps.proofs.Adding.{counts_determine_runs}
use Rattle.cov_steps.proofs.laws.counts_determine_runs.Goals as goal

pub returns : goal.returns
returns c = counts_determine_runs
