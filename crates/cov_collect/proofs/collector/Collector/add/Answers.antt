use Rattle.std.proofs.Common.{rules, ◌≡◌, ◌++◌, ◌∷◌, [], ap, sym, ◌∙◌, subst, map, length, true, ◌+◌, ◌-◌, ◌^◌}
use Rattle.std.specs.Prelude.{min, vec_items}
use Rattle.std.proofs.lemmas.List.{map-append, length-map}
use Rattle.cov_collect.specs.Batchwise.{Collects, is_full}
use Rattle.cov_collect.proofs.Batchwise.{Collects-full, fills}
use Rattle.cov_collect.proofs.collector.Collector.add.Goals as goal

pub returns : goal.returns
returns g c =
    let waiting = map vec_items c.self.inside.waiting.items in
    let all = map vec_items c.as_slice.result.now in
    let is : all ≡ waiting ++ c.args.text.items ∷ [] =
    ap (map vec_items) (c.as_slice.ensures.value ∙ c.in_ok-push.ensures.items) ∙ map-append vec_items c.self.inside.waiting.items (c.args.text ∷ []) in
    let count : c.len-2.result ≡ length all = c.len-2.ensures ∙ sym c.as_slice.ensures.len ∙ sym (length-map c.as_slice.result.now vec_items) in
    let size : c.len.result ≡ length c.args.text.items = search rules in
    let full : is_full all ≡ true =
    fills waiting c.args.text.items all c.len-2.result c.self.inside.bytes c.saturating_add-bytes.result is count c.self.invariant.1
    (c.saturating_add-bytes.ensures ∙ ap (λ m. min (c.self.inside.bytes + m) (2 ^ 64 - 1)) size)
    ∙ sym c.is_full.ensures ∙ c.if-not-is_full.false in
    λ texts h.
    Collects-full texts waiting c.args.text.items c.self.inside.book c.self.inside.answers all c.in_ok-now.now is full c.in_ok-now.ensures (map vec_items c.new.result.items) (ap (map vec_items) c.new.ensures.items)
    (subst (Collects texts) (sym c.self.view_is) h)
