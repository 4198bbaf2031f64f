use Rattle.std.proofs.Common.{◌≡◌, ◌∷◌, refl, ap, ◌∙◌, arith}
use Rattle.json.specs.Reads.{token_of}
use Rattle.serde_json.specs.Data.{object}
use Rattle.json_walk.proofs.Turns.{object_begins}
use Rattle.json_walk.proofs.keyed.ObjectListed.read.Goals as goal

pub returns-clause-ok : goal.returns-clause-ok
returns-clause-ok g c =
    let first : c.args.reader.now ≡ token_of c.in_ok-token.token ∷ c.next.new.self = grind arith in
    let is = first ∙ ap (λ k. token_of k ∷ c.next.new.self) c.in-BeginObject.is in
    let made = c.in_ok-members.ensures.ok in
    (object made.0, object_begins c.args.depth _ _ _ made.0 is (omega arith) made.1, (made.0, refl, made.2))
