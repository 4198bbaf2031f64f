use Rattle.std.proofs.Common.{length}
use Rattle.json_walk.proofs.Turns.{MembersGone}
use Rattle.json_walk.proofs.shape.object_members.Given as goal

abbrev pub invariant-members : goal.invariant-members
invariant-members g l =
    (gone : MembersGone l.depth l.initial.reader l.reader) × g.T.Membered.holds l.found gone.told

abbrev pub decreases-members : goal.decreases-members
decreases-members g l = length l.reader
