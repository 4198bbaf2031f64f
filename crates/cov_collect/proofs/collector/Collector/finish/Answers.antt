use Rattle.std.proofs.Common.{◌<◌, ap, sym, ◌∙◌, subst, map, length}
use Rattle.std.specs.Prelude.{vec_items}
use Rattle.std.proofs.lemmas.List.{length-map}
use Rattle.std.proofs.lemmas.Result.{IfOk-weaker}
use Rattle.cov_collect.specs.Batchwise.{Collects}
use Rattle.cov_collect.proofs.Batchwise.{HasTakenAll-last, above}
use Rattle.cov_collect.proofs.collector.Collector.finish.Goals as goal

pub returns : goal.returns
returns g c =
    let all = map vec_items c.as_slice.result.now in
    let some : 0 < length all =
    subst (λ n. 0 < n) (sym c.as_slice.ensures.len ∙ sym (length-map c.as_slice.result.now vec_items)) (above _ (sym c.is_empty.ensures ∙ c.if-is_empty.false)) in
    IfOk-weaker c.take.result _ _
    (λ now taken texts h. HasTakenAll-last texts (map vec_items c.self.inside.waiting.items) all c.self.inside.book c.self.inside.answers now
    (ap (map vec_items) c.as_slice.ensures.value) some taken (subst (Collects texts) (sym c.self.view_is) h))
    c.take.ensures
