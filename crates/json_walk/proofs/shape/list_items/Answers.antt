use Rattle.std.proofs.Common.{◌≡◌, ◌<◌, length, None, arith}
use Rattle.json.specs.Json.{after_end_array}
use Rattle.serde_json.specs.Data.{no_items}
use Rattle.json_walk.proofs.Turns.{items_start, items_turn, items_done}
use Rattle.json_walk.proofs.Lists.{none_found, one_more, all_found, on_ok_at}
use Rattle.json_walk.proofs.shape.list_items.Goals as goal

pub items-init : goal.items-init
items-init g c = (items_start c.args.depth c.args.reader.now, none_found g.T.Listed.gives _ c.new-found.ensures)

pub items-preserved : goal.items-preserved
items-preserved g c =
    let l = c.items in
    let gone = l.invariant.0 in
    let going : (after_end_array l.reader ≡ None) × (c.take_end_array.new.self ≡ l.reader) = grind arith in
    let done = c.in_ok-item.ensures in
    let d = done.ok.0 in
    let less : length c.read.new.reader < length l.reader = rw (← going.1) done.shorter in
    let pushed = on_ok_at c.push.result c.if-is_err.ensures.value c.push.ensures.ok in (
      items_turn c.args.depth c.args.reader.now l.reader c.read.new.reader d gone going.0 (rw (← going.1) done.ok.1) less,
      one_more g.T.Listed.gives l.found _ gone.made c.in_ok-item.item d pushed done.ok.2 l.invariant.1,
    )

pub returns-clause-ok : goal.returns-clause-ok
returns-clause-ok g c =
    let gone = c.items.invariant.0 in (
      gone.made no_items,
      items_done c.args.depth c.args.reader.now c.items.reader c.take_end_array.new.self gone (grind arith),
      rw c.fitted.ensures (all_found g.T.Listed.gives c.items.found gone.made c.items.invariant.1),
    )
