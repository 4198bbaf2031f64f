use Rattle.std.proofs.Common.{◌≡◌, ◌+◌, ◌*◌, length}
use Rattle.serde_json.specs.View.{members_view}
use Rattle.json_walk.proofs.Turns.{ItemsGone, MembersGone}
use Rattle.json_walk.proofs.Trees.{GoesBehind}
use Rattle.json_walk.proofs.tree.+read_value.Given as goal

abbrev pub decreases-read_value : goal.decreases-read_value
decreases-read_value l = 2 * l.depth

abbrev pub decreases-value_items : goal.decreases-value_items
decreases-value_items l = 2 * l.depth + 1

abbrev pub decreases-value_members : goal.decreases-value_members
decreases-value_members l = 2 * l.depth + 1

abbrev pub invariant-value_items-items : goal.invariant-value_items-items
invariant-value_items-items l =
    (gone : ItemsGone l.depth l.initial.reader l.reader) × GoesBehind l.found.items gone.made

abbrev pub decreases-value_items-items : goal.decreases-value_items-items
decreases-value_items-items l = length l.reader

abbrev pub invariant-value_members-members : goal.invariant-value_members-members
invariant-value_members-members l =
    (gone : MembersGone l.depth l.initial.reader l.reader) × (members_view l.found.entries ≡ gone.told)

abbrev pub decreases-value_members-members : goal.decreases-value_members-members
decreases-value_members-members l = length l.reader
