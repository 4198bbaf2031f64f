use Rattle.std.proofs.Common.{◌≡◌, Some, subst}
use Rattle.std.proofs.lemmas.Str.{is_utf8-from_IsUtf8}
use Rattle.serde_json.specs.Read.{read}
use Rattle.json_walk.proofs.Reading.{if_some_weaker, parsed_is}
use Rattle.json_walk.proofs.whole.read_bytes.Goals as goal

pub returns-in-Ok-clause-value : goal.returns-in-Ok-clause-value
returns-in-Ok-clause-value g c =
    let bytes = c.args.bytes.now in
    let utf8 = is_utf8-from_IsUtf8 bytes c.in-Ok.ensures.cases.1 in
    if_some_weaker c.read_text.result (λ x h. (h.0, parsed_is bytes h.0 utf8 (subst (λ t. read t ≡ Some h.0) c.in-Ok.ensures.cases.0 h.1), h.2)) c.read_text.ensures
