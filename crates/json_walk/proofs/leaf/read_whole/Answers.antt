use Rattle.std.proofs.Common.{◌≡◌, ◌∷◌, Some, sym, ap, ◌∙◌, refl, arith}
use Rattle.json.specs.Token.{Token}
use Rattle.json.specs.Reads.{token_of}
use Rattle.serde_json.specs.Data.{number, unsigned}
use Rattle.json_walk.specs.Numbers.{num_of}
use Rattle.json_walk.proofs.Turns.{number_begins}
use Rattle.json_walk.proofs.leaf.read_whole.Goals as goal

pub returns-in-Some-Unsigned-clause-ok : goal.returns-in-Some-Unsigned-clause-ok
returns-in-Some-Unsigned-clause-ok c =
    let first : c.args.reader.now ≡ token_of c.in_ok-token.token ∷ c.next.new.self = grind arith in
    let is : c.args.reader.now ≡ Token.number c.in-Number.text.now ∷ c.next.new.self = grind (arith, first) in
    let judged = sym c.in-Some-Unsigned.ensures ∙ ap (λ n. Some (num_of n)) c.in-Some-Unsigned.field-0-is in
    (number (unsigned c.in-Some-Unsigned.n), λ depth. number_begins depth _ _ c.in-Number.text.now _ is judged, refl)
