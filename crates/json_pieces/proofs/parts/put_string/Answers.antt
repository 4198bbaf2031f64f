use Rattle.std.proofs.Common.{ap, ◌∙◌}
use Rattle.std.proofs.lemmas.Result.{on_ok_weaker}
use Rattle.json_pieces.proofs.Texts.{string-behind}
use Rattle.json_pieces.proofs.parts.put_string.Goals as goal

pub returns : goal.returns
returns c =
    on_ok_weaker c.string-written.result
    (λ wrote. string-behind c.args.string.now _ _ c.args.text.now.items _ _ _ c.into_inner.ensures.items (c.string-written.ensures.room.0 ∙ c.new-writer.ensures.before) (ap (λ v. v.items) c.replace.ensures.value) c.new-writer.ensures.tokens wrote)
    c.string-written.ensures.ok
