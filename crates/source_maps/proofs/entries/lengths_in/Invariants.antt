use Rattle.std.proofs.Common.{◌≡◌, drop}
use Rattle.serde_json.specs.View.{items_view}
use Rattle.json_shapes.specs.Shapes.{offset_of}
use Rattle.json_shapes.specs.Members.{each_of}
use Rattle.source_maps.specs.Answers.{behind_all}
use Rattle.source_maps.proofs.entries.lengths_in.Given as goal

-- the lengths so far, and those of the rest, are those of all
abbrev pub invariant-loop-value : goal.invariant-loop-value
invariant-loop-value l = behind_all l.lengths (each_of offset_of (items_view (drop l.value-index l.values))) ≡ each_of offset_of (items_view l.values)
