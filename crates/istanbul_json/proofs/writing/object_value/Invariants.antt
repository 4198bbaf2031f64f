use Rattle.std.proofs.Common.{◌≡◌}
use Rattle.std.specs.Iterator.Adapters.{rev_source}
use Rattle.std.specs.List.{AllByRecursion}
use Rattle.std.specs.Slice.Iter.{iter_rest}
use Rattle.serde_json.specs.View.{members_view}
use Rattle.istanbul_json.specs.Value.{members_by}
use Rattle.istanbul_json.proofs.Written.{onto}
use Rattle.istanbul_json.proofs.writing.object_value.Given as goal

-- the members so far, with those of the rest put into them, are those of all
abbrev pub invariant-loop-item : goal.invariant-loop-item
invariant-loop-item g l =
    record {
      written : onto g.T.Member.key_of g.T.Member.shown (iter_rest (rev_source l.item-iterator)) (members_view l.members.entries) ≡ members_by g.T.Member.key_of g.T.Member.shown l.items;
      small : AllByRecursion g.T.Member.is_small (iter_rest (rev_source l.item-iterator)) → AllByRecursion g.T.Member.is_small l.items;
    }
