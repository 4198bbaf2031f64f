use Rattle.std.proofs.Common.{vec_items, subst, ◌∙◌}
use Rattle.std.proofs.lemmas.Result.{err_from_is_err_and}
use Rattle.cov_attach.specs.Gathered.{Gathers}
use Rattle.cov_attach.proofs.Parts.{front_told, back_told, none_told, all_taken}
use Rattle.cov_attach.proofs.many.joined.Goals as goal

pub returns-in_err-all : goal.returns-in_err-all
returns-in_err-all c =
    let p = err_from_is_err_and c.from_residual.result c.from_residual.ensures.1 in
    rw (p.1, p.2)
    (λ first a b e front back. front_told first c.args.middle a b c.in_err-all.field-0.0 e (subst (Gathers vec_items first a) c.in_err-all.was front))

pub returns-in_err-more : goal.returns-in_err-more
returns-in_err-more c =
    let p = err_from_is_err_and c.from_residual-in_err-more.result c.from_residual-in_err-more.ensures.1 in
    rw (p.1, p.2)
    (λ first a b e front back.
    back_told first c.args.middle a b c.in_err-more.field-0.0 e (subst (Gathers vec_items first a) c.in_ok-all.was front).0
    (subst (Gathers vec_items c.args.middle b) c.in_err-more.was back))

pub returns-in-Ok : goal.returns-in-Ok
returns-in-Ok c =
    λ first a b e front back.
    let f = subst (Gathers vec_items first a) c.in_ok-all.was front in
    let g = subst (Gathers vec_items c.args.middle b) c.in_ok-more.was back in
    (none_told first c.args.middle a b e f.0 g.0, c.in-Ok.ensures.items ∙ all_taken a b _ _ f.1 g.1)
