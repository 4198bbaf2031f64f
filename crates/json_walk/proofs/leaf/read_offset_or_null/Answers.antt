use Rattle.std.proofs.Common.{◌≡◌, ◌∷◌, Some, refl, ap, ◌∙◌, arith}
use Rattle.json.specs.Token.{Token}
use Rattle.json.specs.Reads.{token_of}
use Rattle.serde_json.specs.Data.{null, number}
use Rattle.json_walk.proofs.Turns.{null_begins, number_begins}
use Rattle.json_walk.proofs.leaf.read_offset_or_null.Goals as goal

pub returns-in-Null-clause-ok : goal.returns-in-Null-clause-ok
returns-in-Null-clause-ok c =
    let first : c.args.reader.now ≡ token_of c.in_ok-token.token ∷ c.next.new.self = grind arith in
    (null, λ depth. null_begins depth _ _ (grind (arith, first)), refl)

pub returns-in_ok-n-in-Number-clause-ok : goal.returns-in_ok-n-in-Number-clause-ok
returns-in_ok-n-in-Number-clause-ok c =
    let first : c.args.reader.now ≡ token_of c.in_ok-token.token ∷ c.next.new.self = grind arith in
    let is : c.args.reader.now ≡ Token.number c.in-Number.text.now ∷ c.next.new.self = grind (arith, first) in
    let n = c.in_ok-n-in-Number.ensures in
    (number n.0, λ depth. number_begins depth _ _ c.in-Number.text.now _ is n.1, rw (n.2) refl)
