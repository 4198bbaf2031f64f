use Rattle.std.proofs.Common.{◌++◌, ◌∷◌, [], ap, ◌∙◌}
use Rattle.std.specs.Prelude.{string_bytes}
use Rattle.std.proofs.lemmas.Result.{on_ok_weaker}
use Rattle.vlq_mappings.proofs.Spelled.{group_more, group_last}
use Rattle.vlq_mappings.proofs.writer.push_whole.Goals as goal

pub groups-preserved : goal.groups-preserved
groups-preserved c =
    let text = string_bytes c.groups.text in
    rw (c.in_ok-push_mark.ensures, c.glyph_of.ensures.glyph) (group_more text c.groups.whole _ c.groups.invariant c.groups-test.true)

pub returns : goal.returns
returns c =
    let text = string_bytes c.groups.text in
    on_ok_weaker c.push_mark-2.result
    (λ e. e ∙ ap (λ g. text ++ g ∷ []) c.glyph_of-2.ensures.glyph ∙ group_last text c.groups.whole _ c.groups.invariant c.groups-test.false) c.push_mark-2.ensures
