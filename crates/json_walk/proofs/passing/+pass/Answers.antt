use Rattle.std.proofs.Common.{◌≡◌, ◌<◌, ◌∷◌, length, Some, None, sym, ap, ◌∙◌, arith}
use Rattle.json.specs.Token.{Token}
use Rattle.json.specs.Json.{after_end_array, read_key}
use Rattle.json.specs.Reads.{token_of}
use Rattle.serde_json.specs.Data.{null, boolean, number, string, array, object, no_items}
use Rattle.json_walk.specs.Numbers.{num_of}
use Rattle.json_walk.proofs.Reading.{on_some_weaker}
use Rattle.json_walk.proofs.Turns.{items_start, items_turn, items_done, members_start, members_turn, members_done, array_begins, object_begins, string_begins, boolean_begins, null_begins, number_begins}
use Rattle.json_walk.proofs.passing.+pass.Goals as goal

pub pass-returns-in-String-clause-ok : goal.pass-returns-in-String-clause-ok
pass-returns-in-String-clause-ok t c =
    let first : c.args.reader.now ≡ token_of c.in_ok-token.token ∷ c.next.new.self = grind arith in
    (string c.in-String.field-0.now, string_begins c.args.depth _ _ _ (grind (arith, first)))

pub pass-returns-in-Bool-clause-ok : goal.pass-returns-in-Bool-clause-ok
pass-returns-in-Bool-clause-ok t c =
    let first : c.args.reader.now ≡ token_of c.in_ok-token.token ∷ c.next.new.self = grind arith in
    (boolean c.in-Bool.field-0, boolean_begins c.args.depth _ _ _ (grind (arith, first)))

pub pass-returns-in-Null-clause-ok : goal.pass-returns-in-Null-clause-ok
pass-returns-in-Null-clause-ok t c =
    let first : c.args.reader.now ≡ token_of c.in_ok-token.token ∷ c.next.new.self = grind arith in
    (null, null_begins c.args.depth _ _ (grind (arith, first)))

pub pass-returns-in-Some-clause-ok : goal.pass-returns-in-Some-clause-ok
pass-returns-in-Some-clause-ok t c =
    let first : c.args.reader.now ≡ token_of c.in_ok-token.token ∷ c.next.new.self = grind arith in
    let is : c.args.reader.now ≡ Token.number c.in-Number.text.now ∷ c.next.new.self = grind (arith, first) in
    (number (num_of c.in-Some.field-0), number_begins c.args.depth _ _ c.in-Number.text.now _ is (sym c.in-Some.ensures))

pub pass-returns-else-depth-eq0-clause-ok : goal.pass-returns-else-depth-eq0-clause-ok
pass-returns-else-depth-eq0-clause-ok t c =
    let first : c.args.reader.now ≡ token_of c.in_ok-token.token ∷ c.next.new.self = grind arith in
    let is = first ∙ ap (λ k. token_of k ∷ c.next.new.self) c.in-BeginArray.is in
    on_some_weaker c.pass_items.result (λ ds. (array ds.0, array_begins c.args.depth _ _ _ ds.0 is (omega arith) ds.1)) c.pass_items.ensures.ok

pub pass-returns-else-depth-eq0-2-clause-ok : goal.pass-returns-else-depth-eq0-2-clause-ok
pass-returns-else-depth-eq0-2-clause-ok t c =
    let first : c.args.reader.now ≡ token_of c.in_ok-token.token ∷ c.next.new.self = grind arith in
    let is = first ∙ ap (λ k. token_of k ∷ c.next.new.self) c.in-BeginObject.is in
    on_some_weaker c.pass_members.result (λ ms. (object ms.0, object_begins c.args.depth _ _ _ ms.0 is (omega arith) ms.1)) c.pass_members.ensures.ok

pub pass_items-items-init : goal.pass_items-items-init
pass_items-items-init t c = items_start c.args.depth c.args.reader.now

pub pass_items-items-preserved : goal.pass_items-items-preserved
pass_items-items-preserved t c =
    let l = c.items in
    let going : (after_end_array l.reader ≡ None) × (c.take_end_array.new.self ≡ l.reader) = grind arith in
    let done = c.in_ok-pass.ensures in
    let less : length c.pass.new.reader < length l.reader = rw (← going.1) done.shorter in
    items_turn c.args.depth c.args.reader.now l.reader c.pass.new.reader done.ok.0 l.invariant going.0 (rw (← going.1) done.ok.1) less

pub pass_items-returns-clause-ok : goal.pass_items-returns-clause-ok
pass_items-returns-clause-ok t c =
    (c.items.invariant.made no_items, items_done c.args.depth c.args.reader.now c.items.reader c.take_end_array.new.self c.items.invariant (grind arith))

pub pass_members-members-init : goal.pass_members-members-init
pass_members-members-init t c = members_start c.args.depth c.args.reader.now

pub pass_members-members-preserved : goal.pass_members-members-preserved
pass_members-members-preserved t c =
    let l = c.members in
    let key = c.in-Ok-Some.field-0-0.now in
    let named : read_key l.reader ≡ Some (Some key, c.next_key.new.self) = grind arith in
    let done = c.in_ok-pass-in-Ok-Some.ensures in
    members_turn c.args.depth c.args.reader.now l.reader c.next_key.new.self c.pass.new.reader key done.ok.0 l.invariant named done.ok.1 done.shorter

pub pass_members-returns-in-Ok-None-clause-ok : goal.pass_members-returns-in-Ok-None-clause-ok
pass_members-returns-in-Ok-None-clause-ok t c =
    (c.members.invariant.told, members_done c.args.depth c.args.reader.now c.members.reader c.next_key.new.self c.members.invariant (grind arith))
