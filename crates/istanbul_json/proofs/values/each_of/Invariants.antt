use Rattle.std.proofs.Common.{◌≡◌, drop}
use Rattle.serde_json.specs.View.{items_view}
use Rattle.json_shapes.specs.Members.{each_of}
use Rattle.istanbul_json.specs.Answers.{behind}
use Rattle.istanbul_json.proofs.values.each_of.Given as goal

-- the items so far, and those of the rest, are those of all
abbrev pub invariant-loop-value : goal.invariant-loop-value
invariant-loop-value g l = behind l.items (each_of g.T.FromValue.reads (items_view (drop l.value-index l.values))) ≡ each_of g.T.FromValue.reads (items_view l.values)
