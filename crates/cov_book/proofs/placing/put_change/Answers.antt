use Rattle.std.proofs.Common.{◌≡◌, true, false, refl, sym, ap, ◌∙◌, subst, arith, length}
use Rattle.std.specs.Prelude.{slice_get}
use Rattle.std.specs.List.{insert}
use Rattle.std.specs.Map.{lookup}
use Rattle.std.specs.BTreeMap.{is_at}
use Rattle.cov_model.specs.Sums.{file_order}
use Rattle.cov_book.specs.Listed.{AreInOrder, IsPlace, is_front, is_there, of_url, own_list}
use Rattle.cov_book.proofs.Among.{changed-in, in-order-url, none-there, put-fresh, put-held, there-is, there-within}
use Rattle.cov_book.specs.Renewed.{changed_script, made}
use Rattle.cov_book.proofs.Placed.{took}
use Rattle.cov_book.proofs.Renewing.{made-covers}
use Rattle.cov_book.proofs.placing.put_change.Goals as goal

pub take_functions-held-requires : goal.take_functions-held-requires
take_functions-held-requires c =
    let here : is_there c.args.update.change.url (slice_get c.deref-2.result.now c.place_of_url-at.result) ≡ true = sym c.is_script_at.ensures ∙ c.if-is_script_at.true in
    let lt = there-within c.args.update.change.url c.deref-2.result.now c.place_of_url-at.result here in
    omega (arith, lt, c.deref-2.ensures.len)

pub set_functions-requires : goal.set_functions-requires
set_functions-requires c =
    let here : is_there c.args.update.change.url (slice_get c.deref-2.result.now c.place_of_url-at.result) ≡ true = sym c.is_script_at.ensures ∙ c.if-is_script_at.true in
    let lt = there-within c.args.update.change.url c.deref-2.result.now c.place_of_url-at.result here in
    omega (arith, lt, c.deref-2.ensures.len, c.take_functions-held.ensures.len)

pub functions_with-functions-requires-clause-empty : goal.functions_with-functions-requires-clause-empty
functions_with-functions-requires-clause-empty c = c.requires.room.empty

pub functions_with-functions-requires-clause-len : goal.functions_with-functions-requires-clause-len
functions_with-functions-requires-clause-len c = c.requires.room.len

pub functions_with-functions-requires-clause-room : goal.functions_with-functions-requires-clause-room
functions_with-functions-requires-clause-room c =
    let url = c.args.update.change.url in
    let ss = c.args.scripts.now.items in
    let at = c.place_of_url-at.result in
    let place : IsPlace (is_front url) ss at =
    subst (λ xs. IsPlace (is_front url) xs at) c.deref.ensures.value (subst (λ u. IsPlace (is_front u) c.deref.result.now at) c.as_text.ensures c.place_of_url-at.ensures) in
    let here : is_there url (slice_get ss at) ≡ true = sym (ap (λ xs. is_there url (slice_get xs at)) c.deref-2.ensures.value) ∙ sym c.is_script_at.ensures ∙ c.if-is_script_at.true in
    let taken = c.take_functions-held.ensures.functions (record { url = url; functions = of_url url ss }) (there-is url ss at c.requires.order.urls place.front here) in
    let held = ap length taken in
    (λ some. let room = c.requires.room.room some in omega (arith, held, room))

pub functions_with-functions-requires-clause-held : goal.functions_with-functions-requires-clause-held
functions_with-functions-requires-clause-held c =
    let url = c.args.update.change.url in
    let ss = c.args.scripts.now.items in
    let at = c.place_of_url-at.result in
    let place : IsPlace (is_front url) ss at =
    subst (λ xs. IsPlace (is_front url) xs at) c.deref.ensures.value (subst (λ u. IsPlace (is_front u) c.deref.result.now at) c.as_text.ensures c.place_of_url-at.ensures) in
    let here : is_there url (slice_get ss at) ≡ true = sym (ap (λ xs. is_there url (slice_get xs at)) c.deref-2.ensures.value) ∙ sym c.is_script_at.ensures ∙ c.if-is_script_at.true in
    let taken = c.take_functions-held.ensures.functions (record { url = url; functions = of_url url ss }) (there-is url ss at c.requires.order.urls place.front here) in
    subst AreInOrder (sym taken) (in-order-url url ss c.requires.order.functions)

pub returns-then-is_script_at-clause-put : goal.returns-then-is_script_at-clause-put
returns-then-is_script_at-clause-put c =
    let change = c.args.update.change in
    let url = change.url in
    let ss = c.args.scripts.now.items in
    let at = c.place_of_url-at.result in
    let place : IsPlace (is_front url) ss at =
    subst (λ xs. IsPlace (is_front url) xs at) c.deref.ensures.value (subst (λ u. IsPlace (is_front u) c.deref.result.now at) c.as_text.ensures c.place_of_url-at.ensures) in
    let here : is_there url (slice_get ss at) ≡ true = sym (ap (λ xs. is_there url (slice_get xs at)) c.deref-2.ensures.value) ∙ sym c.is_script_at.ensures ∙ c.if-is_script_at.true in
    let script = there-is url ss at c.requires.order.urls place.front here in
    let taken = c.take_functions-held.ensures.functions (record { url = url; functions = of_url url ss }) script in
    let one = changed-in url c.functions_with-functions.result.items ss ss _ c.set_functions.new.scripts.items at c.requires.order script (λ u. refl) c.take_functions-held.ensures.left c.set_functions.ensures.set c.functions_with-functions.ensures.order in
    put-held (changed_script ss change) c.functions_with-functions.result.items ss c.set_functions.new.scripts.items at c.requires.order place here one
    (λ key. c.functions_with-functions.ensures.found url key ∙ ap (λ fs. lookup (is_at (file_order key)) (own_list url (made fs change.functions))) taken ∙ made-covers url (of_url url ss) change.functions key)

pub returns-else-is_script_at-clause-put : goal.returns-else-is_script_at-clause-put
returns-else-is_script_at-clause-put c =
    let change = c.args.update.change in
    let url = change.url in
    let ss = c.args.scripts.now.items in
    let at = c.place_of_url-at.result in
    let place : IsPlace (is_front url) ss at =
    subst (λ xs. IsPlace (is_front url) xs at) c.deref.ensures.value (subst (λ u. IsPlace (is_front u) c.deref.result.now at) c.as_text.ensures c.place_of_url-at.ensures) in
    let none : is_there url (slice_get ss at) ≡ false = sym (ap (λ xs. is_there url (slice_get xs at)) c.deref-2.ensures.value) ∙ sym c.is_script_at.ensures ∙ c.if-is_script_at.false in
    let s = changed_script ss change in
    let are : c.from_vec-functions.result ≡ s.functions = c.from_vec-functions.ensures ∙ sym (ap (λ fs. made fs change.functions) (none-there url ss at c.requires.order.urls place.front place.back none)) in
    let now : c.insert.new.self.items ≡ insert ss at (record { url = url; functions = c.from_vec-functions.result }) = took c.insert.result c.insert.new.self.items (insert ss at (record { url = url; functions = c.from_vec-functions.result })) ss (c.insert.ensures.succeeds c.requires.place) c.insert.ensures.items in
    put-fresh s ss c.insert.new.self.items at c.requires.order place none (now ∙ ap (λ fs. insert ss at (record { url = url; functions = fs })) are) (subst AreInOrder (sym c.from_vec-functions.ensures ∙ are) c.requires.fresh)
