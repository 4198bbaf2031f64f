use Rattle.std.proofs.Common.{sym, subst}
use Rattle.std.specs.Prelude.{option_copied}
use Rattle.cov_book.specs.Stretching.{IfRooted, IsCover}
use Rattle.cov_book.proofs.faults.with_held.Goals as goal

pub with_runs-requires : goal.with_runs-requires
with_runs-requires g c =
    let key = c.args.key.now in
    let runs = c.in-Some.sums.now.runs in
    let root = subst (λ o. IfRooted key.start key.end (option_copied o)) c.in-Some.is c.requires.held in
    subst (IsCover runs.start runs.end) (sym c.deref.ensures.value)
    (subst (λ n. IsCover n runs.end c.args.added.items) (sym root.0) (subst (λ n. IsCover key.start n c.args.added.items) (sym root.1) c.requires.covers))
