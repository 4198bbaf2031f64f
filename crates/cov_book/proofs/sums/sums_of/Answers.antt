use Rattle.std.proofs.Common.{ℕ, ◌≤◌, ◌<◌, sym, subst, arith}
use Rattle.std.specs.List.{AllByRecursion}
use Rattle.cov_model.specs.declared.report.Range.{Range}
use Rattle.cov_text.specs.Listing.{limit}
use Rattle.cov_steps.specs.Runs.{RunList, count_in}
use Rattle.cov_book.proofs.Within.{counted-small}
use Rattle.cov_book.proofs.sums.sums_of.Goals as goal

pub returns-clause-within : goal.returns-clause-within
returns-clause-within c =
    let counts = counted-small c.args.report.now.ranges (subst (AllByRecursion (λ (r : Range). r.count ≤ limit)) c.as_slice.ensures c.counts_fit.ensures) in (
      omega arith,
      subst (λ (r : RunList). (o : ℕ) → r.start ≤ o → o < r.end → count_in r.runs o ≤ limit) (sym c.in_ok-runs.ensures) counts,
    )
