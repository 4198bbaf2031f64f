use Rattle.std.proofs.Common.{◌++◌, codes, decimal, ap, ◌∙◌}
use Rattle.std.proofs.lemmas.Result.{on_ok_weaker}
use Rattle.json_pieces.proofs.Texts.{four-puts}
use Rattle.scripts_text.proofs.parts.put_range.Goals as goal

pub returns : goal.returns
returns c =
    on_ok_weaker c.put.result
    (λ last. four-puts c.args.text.now.items c.put_field.new.text.items c.put_field-2.new.text.items c.put_field-3.new.text.items c.put.new.text.items _ _ _ _
    c.in_ok-put_field.ensures
    (c.in_ok-put_field-2.ensures ∙ ap (λ n. c.put_field.new.text.items ++ (codes ",\"endOffset\":" ++ decimal n)) c.from.ensures)
    (c.in_ok-put_field-3.ensures ∙ ap (λ n. c.put_field-2.new.text.items ++ (codes ",\"startOffset\":" ++ decimal n)) c.from-2.ensures)
    last)
    c.put.ensures
