use Rattle.std.proofs.Common.{ℕ, ◌≤◌, ◌<◌, sym, subst, arith}
use Rattle.cov_steps.specs.Runs.{RunList, count_in}
use Rattle.cov_text.specs.Listing.{limit}
use Rattle.cov_book.proofs.Within.{fits-within, past-offset}
use Rattle.cov_book.proofs.sums.sum_with.Goals as goal

pub returns-in-Err-TooBig-clause-past : goal.returns-in-Err-TooBig-clause-past
returns-in-Err-TooBig-clause-past g c =
    past-offset c.args.held.now c.args.added.now c.in-Err-TooBig.field-0-0 c.in-Err-TooBig.field-0-1 c.in-Err-TooBig.field-0-2
    (rw c.in-Err-TooBig.field-0-is at c.in-Err-TooBig.ensures.past)

pub returns-clause-within : goal.returns-clause-within
returns-clause-within g c =
    let root = c.in-Some.ensures in
    let is = fits-within c.args.held.now c.args.added.now (omega (arith, root.0)) c.in-Ok.ensures.fits in (
      subst (λ n. n ≤ limit) (sym root.1) is.0,
      subst (λ (r : RunList). (o : ℕ) → r.start ≤ o → o < r.end → count_in r.runs o ≤ limit) (sym c.in-Ok.ensures.sum) is.1,
    )
