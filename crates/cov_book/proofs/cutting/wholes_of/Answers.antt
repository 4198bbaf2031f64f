use Rattle.std.proofs.Common.{◌≡◌, [], ◌∷◌, ◌++◌, ◌+◌, sym, ap, ◌∙◌, drop, arith}
use Rattle.std.proofs.lemmas.List.{append-nil, append_assoc, drop_more, drop_all}
use Rattle.cov_book.specs.Weights.{entries_in}
use Rattle.cov_book.proofs.Weighed.{parts-push, script}
use Rattle.cov_book.proofs.cutting.wholes_of.Goals as goal

pub loop-entry-preserved : goal.loop-entry-preserved
loop-entry-preserved c =
    let es = c.scripts-entry-items.result.now in
    let k = c.loop-entry.entry-index in
    let e = c.entry-item.result in
    let old = entries_in c.loop-entry.parts.items in
    let rest = drop (k + 1) es in
    let more = drop_more es k e c.loop-entry-test.true ∙ ap (λ x. x ∷ rest) (sym c.entry-item.is) in
    let made : entries_in c.push.new.self.items ≡ old ++ e ∷ [] =
    ap entries_in c.in_ok-push.ensures.items ∙ parts-push c.loop-entry.parts.items _ ∙ ap (λ fs. old ++ script e.url fs ∷ []) c.as_slice-reports.ensures in
    ap (λ xs. xs ++ rest) made ∙ append_assoc old (e ∷ []) rest ∙ ap (λ xs. old ++ xs) (sym more) ∙ c.loop-entry.invariant

pub returns-clause-wholes : goal.returns-clause-wholes
returns-clause-wholes c =
    let made = entries_in c.loop-entry.parts.items in
    let done = drop_all c.loop-entry.entry-index c.scripts-entry-items.result.now (omega (arith, c.loop-entry-test.false)) in
    sym (append-nil made) ∙ ap (λ xs. made ++ xs) (sym done) ∙ c.loop-entry.invariant ∙ c.scripts-entry-items.ensures.value
