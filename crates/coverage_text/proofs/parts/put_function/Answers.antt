use Rattle.std.proofs.Common.{◌++◌, ap, ◌∙◌}
use Rattle.std.proofs.lemmas.Result.{on_ok_weaker}
use Rattle.json_pieces.proofs.Texts.{four-puts}
use Rattle.coverage_text.specs.Parts.{behind_loc}
use Rattle.coverage_text.proofs.parts.put_function.Goals as goal

pub returns : goal.returns
returns c =
    on_ok_weaker c.put_behind_loc.result
    (λ last. four-puts c.args.text.now.items c.put_loc_field.new.text.items c.put_number_field.new.text.items c.put_loc_field-2.new.text.items c.put_behind_loc.new.text.items _ _ _ _
    c.in_ok-put_loc_field.ensures c.in_ok-put_number_field.ensures c.in_ok-put_loc_field-2.ensures
    (last ∙ ap (λ n. c.put_loc_field-2.new.text.items ++ behind_loc n) c.as_text.ensures))
    c.put_behind_loc.ensures
