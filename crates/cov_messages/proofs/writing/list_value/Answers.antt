use Rattle.std.proofs.Common.{refl, ap, ◌∙◌}
use Rattle.serde_json.specs.Data.{array}
use Rattle.serde_json.specs.View.{view}
use Rattle.serde_json.proofs.Views.{view-Array}
use Rattle.json_shapes.specs.Shapes.{array_of}
use Rattle.cov_messages.proofs.Written.{one-more, all-written}
use Rattle.cov_messages.proofs.writing.list_value.Goals as goal

pub loop-item-preserved : goal.loop-item-preserved
loop-item-preserved g c =
    one-more view (λ k xs. array_of g.T.Shown.shown xs) (λ k x. g.T.Shown.shown x) (λ k x rest. refl) c.args.items.now c.loop-item.item-index c.item-item.result
    c.loop-item.values.items c.push.new.self.items c.in_ok-value.field-0 _ c.loop-item-test.true c.item-item.is c.in_ok-value.ensures c.in_ok-push.ensures.items c.loop-item.invariant

pub returns : goal.returns
returns g c =
    view-Array c.loop-item.values
    ∙ ap array (all-written view (λ k xs. array_of g.T.Shown.shown xs) (λ k. refl) c.args.items.now c.loop-item.item-index c.loop-item.values.items _ c.loop-item-test.false c.loop-item.invariant)
