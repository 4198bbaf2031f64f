use Rattle.std.proofs.Common.{◌∷◌, ap, ◌∙◌}
use Rattle.json_shapes.specs.Shapes.{array_of}
use Rattle.serde_json.specs.Data.{array}
use Rattle.serde_json.specs.Written.{compact_text}
use Rattle.istanbul_json.specs.Value.{count_data}
use Rattle.json_pieces.proofs.Elements.{array-text}
use Rattle.json_pieces.proofs.Steps.{hands-of}
use Rattle.coverage_text.proofs.listed.BranchListed.write_counts.Goals as goal

pub returns : goal.returns
returns g c =
    hands-of _ _ _ _ _ _ _
    (ap (λ t. 91 ∷ t) (array-text count_data c.as_slice.result.now) ∙ ap (λ ns. compact_text (array (array_of count_data ns))) c.as_slice.ensures)
    c.write_list.ensures
