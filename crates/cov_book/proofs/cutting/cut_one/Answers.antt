use Rattle.std.proofs.Common.{◌≡◌, [], ◌∷◌, ◌++◌, ◌+◌, refl, sym, ap, ◌∙◌, subst, drop, arith}
use Rattle.std.proofs.lemmas.List.{drop_more, drop_all}
use Rattle.cov_book.specs.Weights.{entries_in, entry_of, AreAlike}
use Rattle.cov_book.proofs.Weighed.{alike-cut, alike-itself, alike-then, parts-push, script}
use Rattle.cov_book.proofs.cutting.cut_one.Goals as goal

pub loop-report-init : goal.loop-report-init
loop-report-init c = alike-itself (entries_in c.args.parts.now.items ++ entry_of c.args.whole.now ∷ []) _ refl

pub loop-report-preserved : goal.loop-report-preserved
loop-report-preserved c =
    let url = c.args.whole.now.url.now in
    let fs = c.args.whole.now.reports.now in
    let k = c.loop-report.report-index in
    let f = c.report-item.result in
    let rest = drop (k + 1) fs in
    let old = entries_in c.loop-report.parts.items in
    let all = entries_in c.args.parts.now.items ++ entry_of c.args.whole.now ∷ [] in
    let more = drop_more fs k f c.loop-report-test.true ∙ ap (λ x. x ∷ rest) (sym c.report-item.is) in
    let so_far = subst (λ gs. AreAlike all (old ++ script url gs ∷ [])) more c.loop-report.invariant in
    let made : entries_in c.push.new.self.items ≡ old ++ script url (f ∷ []) ∷ [] =
    ap entries_in c.in_ok-push.ensures.items ∙ parts-push c.loop-report.parts.items _ ∙ ap (λ gs. old ++ script url gs ∷ []) c.from_ref-reports.ensures.value in
    subst (λ es. AreAlike all (es ++ script url rest ∷ [])) (sym made) (alike-then all (old ++ script url (f ∷ rest) ∷ []) _ so_far (alike-cut old url f rest))

pub returns : goal.returns
returns c =
    let url = c.args.whole.now.url.now in
    let fs = c.args.whole.now.reports.now in
    let old = entries_in c.loop-report.parts.items in
    let all = entries_in c.args.parts.now.items ++ entry_of c.args.whole.now ∷ [] in
    let done = drop_all c.loop-report.report-index fs (omega (arith, c.loop-report-test.false)) in
    let last = subst (λ gs. AreAlike all (old ++ script url gs ∷ [])) done c.loop-report.invariant in
    subst (AreAlike all) (sym (ap entries_in c.in_ok-push-2.ensures.items ∙ parts-push c.loop-report.parts.items _)) last
