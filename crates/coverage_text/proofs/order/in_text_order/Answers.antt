use Rattle.std.proofs.Common.{rules}
use Rattle.std.proofs.lemmas.List.Sorted.{answers_always}
use Rattle.istanbul_json.proofs.Inserted.{less, ranks}
use Rattle.coverage_text.proofs.Ordered.{lent_cmp, lent-total, in-turn}
use Rattle.coverage_text.proofs.order.in_text_order.Goals as goal

pub returns : goal.returns
returns g c =
    let key = g.T.HasKey.key_of in
    let lt = less (lent_cmp (λ k. k.item.now) key) (lent-total (λ k. k.item.now) key) in
    let by = ranks (lent_cmp (λ k. k.item.now) key) (lent-total (λ k. k.item.now) key) in
    in-turn (λ k. k.item.now) key c.args.items.now c.in_ok-order.order.items c.sort_by.new.self.items c.in_ok-order.ensures c.requires
    (c.in_ok-sort_by.ensures.sorted lt by (answers_always _ _ _ (λ f a r f' k. search rules)))
    (c.in_ok-sort_by.ensures.stable lt by (answers_always _ _ _ (λ f a r f' k. search rules)))
