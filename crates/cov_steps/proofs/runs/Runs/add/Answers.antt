use Rattle.std.proofs.Common.{◌≡◌, sym, subst}
use Rattle.cov_model.specs.Normal.{maximal_runs}
use Rattle.cov_steps.specs.Runs.{AreRuns, sum_at}
use Rattle.cov_steps.proofs.Maximal.{AreRuns-maximal, AreRuns-ordered}
use Rattle.cov_steps.proofs.runs.Runs.add.Goals as goal

pub invariant_of-result : goal.invariant_of-result
invariant_of-result g c =
    let held = c.args.self.now in
    let f = sum_at held c.args.other.now in
    let kept = AreRuns-maximal held.start held.end f (AreRuns-ordered held.start held.end held.runs c.start-start.ensures.kept) in
    let start : held.start ≡ c.start-start.result = sym c.start-start.ensures.value in
    let end : held.end ≡ c.end-end.result = sym c.end-end.ensures.value in
    let runs : maximal_runs held.start held.end f ≡ c.in_ok-runs.runs.items = sym c.in_ok-runs.ensures.sum in
    subst (λ rs. AreRuns c.start-start.result c.end-end.result rs) runs
    (subst (λ e. AreRuns c.start-start.result e (maximal_runs held.start held.end f)) end (subst (λ s. AreRuns s held.end (maximal_runs held.start held.end f)) start kept))
