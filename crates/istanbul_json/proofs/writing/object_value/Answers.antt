use Rattle.std.proofs.Common.{◌≡◌, ap, ◌∙◌, subst, rules}
use Rattle.std.specs.List.{AllByRecursion}
use Rattle.std.specs.Iterator.Adapters.{rev_source}
use Rattle.std.specs.Slice.Iter.{iter_rest}
use Rattle.serde_json.specs.Data.{object}
use Rattle.serde_json.specs.View.{view, members_view}
use Rattle.serde_json.proofs.Views.{view-Object}
use Rattle.istanbul_json.proofs.Written.{onto, onto-none, one-member, all-members, last-holds}
use Rattle.istanbul_json.proofs.writing.object_value.Goals as goal

pub loop-item-preserved : goal.loop-item-preserved
loop-item-preserved g c = record {
  written =
      one-member g.T.Member.key_of g.T.Member.shown (iter_rest (rev_source c.loop-item.item-iterator)) (iter_rest (rev_source c.next.new.self)) c.in-Some.item.now
      (members_view c.loop-item.members.entries) (members_view c.insert.new.members.entries) c.name.result.now (view c.in_ok-value.value) _
      c.in-Some.ensures.steps c.name.ensures c.in_ok-value.ensures.value c.in_ok-insert.ensures c.loop-item.invariant.written;
  small =
      last-holds g.T.Member.is_small (iter_rest (rev_source c.loop-item.item-iterator)) (iter_rest (rev_source c.next.new.self)) c.in-Some.item.now
      c.in-Some.ensures.steps c.in_ok-value.ensures.is_small c.loop-item.invariant.small;
}

pub returns-clause-value : goal.returns-clause-value
returns-clause-value g c =
    view-Object c.loop-item.members ∙ ap object (all-members g.T.Member.key_of g.T.Member.shown (iter_rest (rev_source c.loop-item.item-iterator)) (members_view c.loop-item.members.entries) _ c.in-None.ensures.steps.0 c.loop-item.invariant.written)

pub loop-item-init : goal.loop-item-init
loop-item-init g c =
    let all : iter_rest (rev_source c.into_iter-item-iterator.result) ≡ c.args.items.now = search rules in
    record {
      written =
          ap (λ l. onto g.T.Member.key_of g.T.Member.shown l (members_view c.new-members.result.entries)) all
          ∙ ap (λ es. onto g.T.Member.key_of g.T.Member.shown c.args.items.now (members_view es)) c.new-members.ensures.empty
          ∙ onto-none g.T.Member.key_of g.T.Member.shown c.args.items.now;
      small = subst (AllByRecursion g.T.Member.is_small) all;
    }
