use Rattle.std.proofs.Common.{◌++◌, ap₂, ◌∙◌, List, map}
use Rattle.std.specs.Prelude.{vec_items}
use Rattle.cov_model.specs.declared.sums.Answer.{Answer}
use Rattle.cov_collect.proofs.Batchwise.{HasTaken-more}
use Rattle.cov_collect.proofs.collector.take.Goals as goal

pub returns : goal.returns
returns g c =
    λ batches. HasTaken-more batches c.args.so_far (map vec_items c.args.texts.now) c.in_ok-batch.batch c.from_vec.result
    (c.from_vec.ensures ∙ c.in_ok-append.ensures.items ∙ ap₂ (λ (xs ys : List Answer). xs ++ ys) c.into_vec-all.ensures c.into_vec-more.ensures)
    c.in_ok-batch.ensures
