use Rattle.std.proofs.Common.{◌+◌, ◌∷◌, ◌++◌, sym, ap, ◌∙◌, subst, drop, arith}
use Rattle.std.proofs.lemmas.List.{append-nil, drop_more, drop_all}
use Rattle.cov_book.specs.Weights.{entries_in, entry_of, AreAlike}
use Rattle.cov_book.proofs.Weighed.{alike-itself, alike-next}
use Rattle.cov_book.proofs.cutting.cut.Goals as goal

pub loop-i-init : goal.loop-i-init
loop-i-init c = alike-itself (entries_in c.args.wholes.now) _ (sym (ap (λ ps. entries_in ps ++ entries_in c.args.wholes.now) c.new-parts.ensures.items))

pub loop-i-preserved : goal.loop-i-preserved
loop-i-preserved c =
    let ws = c.args.wholes.now in
    let k = c.loop-i.i in
    let w = c.index-wholes-i.result in
    let more = ap entries_in (drop_more ws k w c.loop-i-test.true ∙ ap (λ x. x ∷ drop (k + 1) ws) (sym c.index-wholes-i.is)) in
    alike-next (entries_in c.loop-i.parts.items) (entries_in c.add_part.new.parts.items) (entries_in (drop (k + 1) ws)) (entries_in (drop k ws)) (entries_in ws) (entry_of w) more
    c.loop-i.invariant c.in_ok-add_part.ensures

pub returns : goal.returns
returns c =
    let ws = c.args.wholes.now in
    let made = entries_in c.loop-i.parts.items in
    let done = ap entries_in (drop_all c.loop-i.i ws (omega (arith, c.loop-i-test.false))) in
    subst (AreAlike (entries_in ws)) (ap (λ es. made ++ es) done ∙ append-nil made) c.loop-i.invariant
