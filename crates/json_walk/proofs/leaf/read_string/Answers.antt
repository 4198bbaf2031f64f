use Rattle.std.proofs.Common.{◌≡◌, ◌∷◌, Some, sym, ap, arith}
use Rattle.json.specs.Reads.{token_of}
use Rattle.serde_json.specs.Data.{string}
use Rattle.json_walk.proofs.Turns.{string_begins}
use Rattle.json_walk.proofs.leaf.read_string.Goals as goal

pub returns-in-Ok-clause-ok : goal.returns-in-Ok-clause-ok
returns-in-Ok-clause-ok c =
    let first : c.args.reader.now ≡ token_of c.in_ok-token.token ∷ c.next.new.self = grind arith in
    (string c.in-String.text.now, λ depth. string_begins depth _ _ _ (grind (arith, first)), ap Some (sym c.in-Ok.ensures))
