use Rattle.std.proofs.Common.{◌∙◌, refl}
use Rattle.source_remap.proofs.Anchors.{least-of_all, anchors-of_all}
use Rattle.source_remap.proofs.lines.anchors_of.Goals as goal

pub leftmost_offsets-requires : goal.leftmost_offsets-requires
leftmost_offsets-requires c = least-of_all _ _ c.args.lines _ _ c.as_slice.ensures.value c.in_ok-least.ensures refl

pub returns : goal.returns
returns c =
    c.from_vec.ensures
    ∙ anchors-of_all c.args.landings.now c.args.lines c.as_slice.result.now _ _ c.as_slice.ensures.value c.in_ok-least.ensures c.in_ok-offsets.ensures
