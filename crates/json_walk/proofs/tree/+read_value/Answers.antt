use Rattle.std.proofs.Common.{◌≡◌, ◌<◌, ◌∷◌, length, Some, None, sym, ap, ◌∙◌, subst, arith, rules}
use Rattle.json.specs.Token.{Token}
use Rattle.json.specs.Json.{after_end_array, read_key}
use Rattle.json.specs.Reads.{token_of}
use Rattle.serde_json.specs.Data.{null, boolean, put as put_member}
use Rattle.serde_json.specs.View.{view, members_view}
use Rattle.serde_json.specs.declared.value.Value.{Bool, Null, the_lemmas}
use Rattle.serde_json.proofs.Views.{view-Array, view-Object}
use Rattle.json_walk.specs.Reads.{Begins, BeginsItems, BeginsMembers}
use Rattle.json_walk.proofs.Reading.{if_some_weaker}
use Rattle.json_walk.proofs.Turns.{items_start, items_turn, items_done, members_start, members_turn, members_done, array_begins, object_begins, string_begins, boolean_begins, null_begins, number_begins}
use Rattle.json_walk.proofs.Trees.{none_made, one_more_made, all_made, pushed_is}
use Rattle.json_walk.proofs.tree.+read_value.Goals as goal

pub read_value-returns-in-String-clause-ok : goal.read_value-returns-in-String-clause-ok
read_value-returns-in-String-clause-ok t c =
    let first : c.args.reader.now ≡ token_of c.in_ok-token.token ∷ c.next.new.self = grind arith in
    let is : c.args.reader.now ≡ Token.string c.in-String.text.now ∷ c.next.new.self = grind (arith, first) in
    if_some_weaker c.string_value.result (λ v same. subst (λ d. Begins c.args.depth c.args.reader.now d c.next.new.self) (sym same) (string_begins c.args.depth _ _ _ is)) c.string_value.ensures

pub read_value-returns-in-Number-clause-ok : goal.read_value-returns-in-Number-clause-ok
read_value-returns-in-Number-clause-ok t c =
    let first : c.args.reader.now ≡ token_of c.in_ok-token.token ∷ c.next.new.self = grind arith in
    let is : c.args.reader.now ≡ Token.number c.in-Number.text.now ∷ c.next.new.self = grind (arith, first) in
    if_some_weaker c.number_value.result
    (λ v same. subst (λ d. Begins c.args.depth c.args.reader.now d c.next.new.self) (sym same.2) (number_begins c.args.depth _ _ c.in-Number.text.now same.0 is same.1)) c.number_value.ensures

pub read_value-returns-in-Bool-clause-ok : goal.read_value-returns-in-Bool-clause-ok
read_value-returns-in-Bool-clause-ok t c =
    let first : c.args.reader.now ≡ token_of c.in_ok-token.token ∷ c.next.new.self = grind arith in
    let is : c.args.reader.now ≡ Token.boolean c.in-Bool.truth ∷ c.next.new.self = grind (arith, first) in
    let seen : view (Bool c.in-Bool.truth) ≡ boolean c.in-Bool.truth = search (rules, the_lemmas) in
    subst (λ d. Begins c.args.depth c.args.reader.now d c.next.new.self) (sym seen) (boolean_begins c.args.depth _ _ _ is)

pub read_value-returns-in-Null-clause-ok : goal.read_value-returns-in-Null-clause-ok
read_value-returns-in-Null-clause-ok t c =
    let first : c.args.reader.now ≡ token_of c.in_ok-token.token ∷ c.next.new.self = grind arith in
    let is : c.args.reader.now ≡ Token.null ∷ c.next.new.self = grind (arith, first) in
    let seen : view Null ≡ null = search (rules, the_lemmas) in
    subst (λ d. Begins c.args.depth c.args.reader.now d c.next.new.self) (sym seen) (null_begins c.args.depth _ _ is)

pub read_value-returns-in_ok-items-in-BeginArray-clause-ok : goal.read_value-returns-in_ok-items-in-BeginArray-clause-ok
read_value-returns-in_ok-items-in-BeginArray-clause-ok t c =
    let first : c.args.reader.now ≡ token_of c.in_ok-token.token ∷ c.next.new.self = grind arith in
    let is = first ∙ ap (λ k. token_of k ∷ c.next.new.self) c.in-BeginArray.is in
    subst (λ d. Begins c.args.depth c.args.reader.now d c.value_items.new.reader) (sym (view-Array c.in_ok-items-in-BeginArray.items)) (array_begins c.args.depth _ _ _ _ is (omega arith) c.in_ok-items-in-BeginArray.ensures.ok)

pub read_value-returns-in_ok-members-in-BeginObject-clause-ok : goal.read_value-returns-in_ok-members-in-BeginObject-clause-ok
read_value-returns-in_ok-members-in-BeginObject-clause-ok t c =
    let first : c.args.reader.now ≡ token_of c.in_ok-token.token ∷ c.next.new.self = grind arith in
    let is = first ∙ ap (λ k. token_of k ∷ c.next.new.self) c.in-BeginObject.is in
    subst (λ d. Begins c.args.depth c.args.reader.now d c.value_members.new.reader) (sym (view-Object c.in_ok-members-in-BeginObject.members)) (object_begins c.args.depth _ _ _ _ is (omega arith) c.in_ok-members-in-BeginObject.ensures.ok)

pub value_items-items-init : goal.value_items-items-init
value_items-items-init t c = (items_start c.args.depth c.args.reader.now, none_made _ c.new-found.ensures.items)

pub value_items-items-preserved : goal.value_items-items-preserved
value_items-items-preserved t c =
    let l = c.items in
    let gone = l.invariant.0 in
    let going : (after_end_array l.reader ≡ None) × (c.take_end_array.new.self ≡ l.reader) = grind arith in
    let done = c.in_ok-item.ensures in
    let v = c.in_ok-item.item in
    let less : length c.read_value.new.reader < length l.reader = rw (← going.1) done.shorter in
    let pushed = pushed_is c.push.result c.push.new.self.items _ _ c.if-is_err.ensures.value c.push.ensures.items in (
      items_turn c.args.depth c.args.reader.now l.reader c.read_value.new.reader (view v) gone going.0 (rw (← going.1) done.ok) less,
      one_more_made l.found.items _ gone.made v pushed l.invariant.1,
    )

pub value_items-returns-clause-ok : goal.value_items-returns-clause-ok
value_items-returns-clause-ok t c =
    let gone = c.items.invariant.0 in
    subst (λ ds. BeginsItems c.args.depth c.args.reader.now ds c.take_end_array.new.self) (all_made c.items.found.items gone.made c.items.invariant.1)
    (items_done c.args.depth c.args.reader.now c.items.reader c.take_end_array.new.self gone (grind arith))

pub value_members-members-init : goal.value_members-members-init
value_members-members-init t c = (members_start c.args.depth c.args.reader.now, ap members_view c.new-found.ensures.empty)

pub value_members-members-preserved : goal.value_members-members-preserved
value_members-members-preserved t c =
    let l = c.members in
    let gone = l.invariant.0 in
    let key = c.in-Ok-Some.name.now in
    let named : read_key l.reader ≡ Some (Some key, c.next_key.new.self) = grind arith in
    let done = c.in_ok-member-in-Ok-Some.ensures in
    let v = c.in_ok-member-in-Ok-Some.member in (
      members_turn c.args.depth c.args.reader.now l.reader c.next_key.new.self c.read_value.new.reader key (view v) gone named done.ok done.shorter,
      c.in_ok-put-in-Ok-Some.ensures ∙ ap (λ k. put_member k (view v) (members_view l.found.entries)) c.in_ok-key-in-Ok-Some.ensures ∙ ap (put_member key (view v)) l.invariant.1,
    )

pub value_members-returns-in-Ok-None-clause-ok : goal.value_members-returns-in-Ok-None-clause-ok
value_members-returns-in-Ok-None-clause-ok t c =
    let gone = c.members.invariant.0 in
    subst (λ ms. BeginsMembers c.args.depth c.args.reader.now ms c.next_key.new.self) (sym c.members.invariant.1)
    (members_done c.args.depth c.args.reader.now c.members.reader c.next_key.new.self gone (grind arith))
