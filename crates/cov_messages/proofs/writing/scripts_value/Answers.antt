use Rattle.std.proofs.Common.{refl, ap, ◌∙◌}
use Rattle.serde_json.specs.Data.{array}
use Rattle.serde_json.specs.View.{view}
use Rattle.serde_json.proofs.Views.{view-Array}
use Rattle.cov_model.specs.File.{entries_data, entry_data, scripts_data}
use Rattle.cov_messages.proofs.Written.{one-more, all-written}
use Rattle.cov_messages.proofs.writing.scripts_value.Goals as goal

pub loop-place-preserved : goal.loop-place-preserved
loop-place-preserved c =
    one-more view entries_data entry_data (λ k x rest. refl) c.scripts-scripts.result.now c.loop-place.place c.index-scripts-place.result
    c.loop-place.values.items c.push.new.self.items c.in_ok-entry_value.field-0 _ c.loop-place-test.true c.index-scripts-place.is c.in_ok-entry_value.ensures c.in_ok-push.ensures.items c.loop-place.invariant

pub returns : goal.returns
unfolding scripts_data
returns c =
    view-Array c.loop-place.values
    ∙ ap array (all-written view entries_data (λ k. refl) c.scripts-scripts.result.now c.loop-place.place c.loop-place.values.items _ c.loop-place-test.false c.loop-place.invariant
    ∙ ap (entries_data 0) c.scripts-scripts.ensures.value)
