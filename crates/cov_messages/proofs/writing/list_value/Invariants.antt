use Rattle.std.proofs.Common.{◌≡◌, drop}
use Rattle.std.specs.Prelude.{map}
use Rattle.serde_json.specs.View.{view}
use Rattle.json_shapes.specs.Shapes.{array_of}
use Rattle.cov_messages.proofs.Written.{ahead}
use Rattle.cov_messages.proofs.writing.list_value.Given as goal

-- the values so far, and those of the rest, are those of all
abbrev pub invariant-loop-item : goal.invariant-loop-item
invariant-loop-item g l = ahead (map view l.values.items) (array_of g.T.Shown.shown (drop l.item-index l.items)) ≡ array_of g.T.Shown.shown l.items
