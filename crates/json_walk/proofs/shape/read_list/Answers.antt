use Rattle.std.proofs.Common.{◌≡◌, ◌∷◌, ap, ◌∙◌, arith}
use Rattle.json.specs.Reads.{token_of}
use Rattle.json_walk.proofs.Reading.{if_some_weaker}
use Rattle.json_walk.proofs.Turns.{array_begins}
use Rattle.json_walk.proofs.shape.read_list.Goals as goal

pub returns-clause-ok : goal.returns-clause-ok
returns-clause-ok g c =
    let first : c.args.reader.now ≡ token_of c.in_ok-token.token ∷ c.next.new.self = grind arith in
    let is = first ∙ ap (λ k. token_of k ∷ c.next.new.self) c.in-BeginArray.is in
    if_some_weaker c.list_items.result (λ r h. (h.0, array_begins c.args.depth _ _ _ h.0 is (omega arith) h.1, h.2)) c.list_items.ensures.ok
