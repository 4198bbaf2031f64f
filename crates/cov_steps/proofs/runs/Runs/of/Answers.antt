use Rattle.std.proofs.Common.{◌≡◌, ◌≤◌, ◌∙◌, sym, ap, subst, length, arith}
use Rattle.std.specs.Prelude.{slice_index_or, None}
use Rattle.cov_model.specs.Nesting.{range_fault, inner_count}
use Rattle.cov_model.specs.Normal.{range}
use Rattle.cov_steps.specs.Runs.{AreRuns}
use Rattle.cov_steps.proofs.Maximal.{AreRuns-maximal}
use Rattle.cov_steps.proofs.Rooted.{first-ordered}
use Rattle.cov_steps.proofs.runs.Runs.of.Goals as goal

pub invariant_of-result-in-len1-up : goal.invariant_of-result-in-len1-up
invariant_of-result-in-len1-up c =
    let ranges = c.as_slice-ranges.result.now in
    let root = slice_index_or ranges 0 (range 0 0 0) in
    let faultless : range_fault ranges ≡ None = ap range_fault c.as_slice-ranges.ensures ∙ c.requires in
    let some : 1 ≤ length ranges = omega arith in
    let kept = AreRuns-maximal root.start root.end (inner_count ranges) (first-ordered ranges (range 0 0 0) faultless some) in
    subst (λ rs. AreRuns root.start root.end rs) (sym c.in_ok-runs-in-len1-up.ensures) kept
