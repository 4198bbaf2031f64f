use Rattle.std.proofs.Common.{ap, ◌∙◌}
use Rattle.serde_json.specs.Data.{array}
use Rattle.serde_json.proofs.Views.{view-Array}
use Rattle.istanbul_json.proofs.Written.{one-item, all-items, one-holds, all-hold}
use Rattle.istanbul_json.proofs.writing.list_value.Goals as goal

pub loop-item-preserved : goal.loop-item-preserved
loop-item-preserved g c = record {
  written =
      one-item g.T.Item.shown c.args.items.now c.loop-item.item-index c.item-item.result c.loop-item.values.items c.push.new.self.items c.in_ok-value.value _
      c.loop-item-test.true c.item-item.is c.in_ok-value.ensures.value c.in_ok-push.ensures.items c.loop-item.invariant.written;
  small = one-holds g.T.Item.is_small c.args.items.now c.loop-item.item-index c.item-item.result c.loop-item-test.true c.item-item.is c.in_ok-value.ensures.is_small c.loop-item.invariant.small;
}

pub returns-clause-value : goal.returns-clause-value
returns-clause-value g c =
    view-Array c.loop-item.values
    ∙ ap array (all-items g.T.Item.shown c.args.items.now c.loop-item.item-index c.loop-item.values.items _ c.loop-item-test.false c.loop-item.invariant.written)

pub returns-clause-is_small : goal.returns-clause-is_small
returns-clause-is_small g c = all-hold g.T.Item.is_small c.args.items.now c.loop-item.item-index c.loop-item-test.false c.loop-item.invariant.small
