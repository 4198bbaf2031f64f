use Rattle.std.proofs.Common.{◌≡◌, ◌∷◌, refl, arith}
use Rattle.json.specs.Reads.{token_of}
use Rattle.serde_json.specs.Data.{boolean}
use Rattle.json_walk.proofs.Turns.{boolean_begins}
use Rattle.json_walk.proofs.leaf.read_bool.Goals as goal

pub returns-clause-ok : goal.returns-clause-ok
returns-clause-ok c =
    let first : c.args.reader.now ≡ token_of c.in_ok-token.token ∷ c.next.new.self = grind arith in
    (boolean c.in-Bool.truth, λ depth. boolean_begins depth _ _ _ (grind (arith, first)), refl)
