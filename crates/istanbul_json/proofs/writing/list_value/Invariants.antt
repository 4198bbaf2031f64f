use Rattle.std.proofs.Common.{◌≡◌, drop, map}
use Rattle.std.specs.List.{AllByRecursion}
use Rattle.serde_json.specs.View.{view}
use Rattle.json_shapes.specs.Shapes.{array_of}
use Rattle.istanbul_json.proofs.Written.{ahead}
use Rattle.istanbul_json.proofs.writing.list_value.Given as goal

-- the values so far, and those of the rest, are those of all
abbrev pub invariant-loop-item : goal.invariant-loop-item
invariant-loop-item g l =
    record {
      written : ahead (map view l.values.items) (array_of g.T.Item.shown (drop l.item-index l.items)) ≡ array_of g.T.Item.shown l.items;
      small : AllByRecursion g.T.Item.is_small (drop l.item-index l.items) → AllByRecursion g.T.Item.is_small l.items;
    }
