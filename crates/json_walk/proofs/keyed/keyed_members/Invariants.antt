use Rattle.std.proofs.Common.{length, reverse}
use Rattle.json_walk.specs.Shape.{ArePutIn}
use Rattle.json_walk.proofs.Turns.{MembersGone}
use Rattle.json_walk.proofs.keyed.keyed_members.Given as goal

abbrev pub invariant-members : goal.invariant-members
invariant-members g l =
    (gone : MembersGone l.depth l.initial.reader l.reader) × ArePutIn g.T.Keyed.key_of g.T.Keyed.says (reverse l.found) gone.told

abbrev pub decreases-members : goal.decreases-members
decreases-members g l = length l.reader
