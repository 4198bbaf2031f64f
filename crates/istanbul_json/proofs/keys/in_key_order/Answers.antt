use Rattle.std.proofs.Common.{◌∙◌, rules}
use Rattle.std.proofs.lemmas.List.Sorted.{answers_always}
use Rattle.istanbul_json.specs.Answers.{pairs}
use Rattle.istanbul_json.proofs.Inserted.{less, ranks}
use Rattle.istanbul_json.proofs.KeyOrder.{cmp, total, apart-made, sorted-by_key}
use Rattle.istanbul_json.proofs.keys.in_key_order.Goals as goal

pub returns : goal.returns
returns g c =
    let key = g.T.Listed.key_of in
    c.from_vec.ensures
    ∙ sorted-by_key key c.in_ok-all.all.items c.sort_by.new.self.items _ c.in_ok-all.ensures
    (apart-made key g.T.Listed.made g.met.T.Listed.keeps_key (pairs c.args.entries) (pairs c.args.counts) c.requires)
    (c.in_ok-sort_by.ensures.sorted (less (cmp key) (total key)) (ranks (cmp key) (total key)) (answers_always _ _ _ (λ f a r f' k. search rules)))
    (c.in_ok-sort_by.ensures.stable (less (cmp key) (total key)) (ranks (cmp key) (total key)) (answers_always _ _ _ (λ f a r f' k. search rules)))
