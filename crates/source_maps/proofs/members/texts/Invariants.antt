use Rattle.std.proofs.Common.{◌≡◌, drop}
use Rattle.serde_json.specs.View.{items_view}
use Rattle.serde_json.specs.Find.{as_str}
use Rattle.json_shapes.specs.Members.{each_of}
use Rattle.source_maps.specs.Answers.{behind_all}
use Rattle.source_maps.proofs.members.texts.Given as goal

-- the texts so far, and those of the rest, are those of all
abbrev pub invariant-loop-value : goal.invariant-loop-value
invariant-loop-value l = behind_all l.texts (each_of as_str (items_view (drop l.value-index l.values))) ≡ each_of as_str (items_view l.values)
