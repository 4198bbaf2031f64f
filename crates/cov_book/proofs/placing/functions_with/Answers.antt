use Rattle.std.proofs.Common.{◌≡◌, ◌++◌, [], length, sym, ap, ◌∙◌, subst, arith, rules}
use Rattle.std.specs.Map.{lookup}
use Rattle.std.specs.Vec.{vec_len}
use Rattle.std.specs.BTreeMap.{is_at}
use Rattle.std.specs.Option.{option_or}
use Rattle.std.proofs.lemmas.List.{append-nil}
use Rattle.cov_model.specs.Sums.{file_order}
use Rattle.cov_book.specs.Listed.{AreInOrder, own_list}
use Rattle.cov_book.specs.Renewed.{renewed}
use Rattle.cov_book.proofs.Joining.{found-append}
use Rattle.cov_book.proofs.Placed.{none-left}
use Rattle.cov_book.proofs.Renewing.{renewed-in-order, renewed-length}
use Rattle.cov_book.proofs.placing.functions_with.Goals as goal

pub returns-then-is_empty-clause-order : goal.returns-then-is_empty-clause-order
returns-then-is_empty-clause-order c = subst AreInOrder (sym c.renew.ensures) (renewed-in-order c.args.held.items c.args.changes.again.items c.requires.held)

pub returns-then-is_empty-clause-found : goal.returns-then-is_empty-clause-found
returns-then-is_empty-clause-found c = λ url key.
    let gs = renewed c.args.held.items c.args.changes.again.items in
    let len : vec_len c.args.changes.fresh ≡ length c.args.changes.fresh.items = search rules in
    let empty : vec_len c.args.changes.fresh ≡ 0 = search rules in
    let none : c.args.changes.fresh.items ≡ [] = none-left c.args.changes.fresh.items (sym len ∙ empty) in
    ap (λ fs. lookup (is_at (file_order key)) (own_list url fs)) (c.renew.ensures ∙ sym (append-nil gs) ∙ ap (λ fs. gs ++ fs) (sym none))

pub joined-requires-clause-room : goal.joined-requires-clause-room
joined-requires-clause-room c =
    let room = c.requires.room (λ none. let empty = c.is_empty.ensures in search rules) in
    let now = ap length c.renew.ensures ∙ renewed-length c.args.held.items c.args.changes.again.items in
    omega (arith, room, now)

pub joined-requires-clause-new : goal.joined-requires-clause-new
joined-requires-clause-new c = subst AreInOrder (sym c.renew.ensures) (renewed-in-order c.args.held.items c.args.changes.again.items c.requires.held)

pub returns-clause-found : goal.returns-clause-found
returns-clause-found c = λ url key.
    let p = is_at (file_order key) in
    let fresh = c.args.changes.fresh.items in
    c.joined.ensures.found url key
    ∙ ap (λ gs. option_or (lookup p (own_list url gs)) (lookup p (own_list url fresh))) c.renew.ensures
    ∙ sym (found-append p url (renewed c.args.held.items c.args.changes.again.items) fresh)
