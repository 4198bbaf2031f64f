use Rattle.std.proofs.Common.{sym, ap, ◌∙◌, subst, rules}
use Rattle.std.proofs.lemmas.List.Sorted.{answers_always}
use Rattle.istanbul_json.specs.Walks.{rising, AreOrdered}
use Rattle.istanbul_json.proofs.Inserted.{less, ranks}
use Rattle.istanbul_json.proofs.joining.strictly_ordered.Goals as goal

pub returns-then-rises-2 : goal.returns-then-rises-2
returns-then-rises-2 g c =
    let cmp = g.T.Ordered.cmp in
    let total = g.met.T.Ordered.total in
    subst (AreOrdered cmp c.args.all.items) (sym c.from_vec-then-rises-2.ensures) (record {
      rise = ap (rising cmp) (sym c.as_slice-2.ensures.value) ∙ sym c.rises-2.ensures ∙ c.if-rises-2.true;
      same = c.sort_by.ensures.stable (less cmp total) (ranks cmp total) (answers_always _ _ _ (λ f a r f' k. search rules));
    })
