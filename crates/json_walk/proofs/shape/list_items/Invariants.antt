use Rattle.std.proofs.Common.{length}
use Rattle.json_walk.proofs.Turns.{ItemsGone}
use Rattle.json_walk.proofs.Lists.{Goes}
use Rattle.json_walk.proofs.shape.list_items.Given as goal

abbrev pub invariant-items : goal.invariant-items
invariant-items g l =
    (gone : ItemsGone l.depth l.initial.reader l.reader) × Goes g.T.Listed.gives l.found gone.made

abbrev pub decreases-items : goal.decreases-items
decreases-items g l = length l.reader
