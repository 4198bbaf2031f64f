use Rattle.std.proofs.Common.{◌≡◌, ◌++◌, length, reverse, true, sym, ap, ◌∙◌, subst, arith, rules}
use Rattle.std.specs.Option.{option_or}
use Rattle.std.specs.List.{AllByRecursion}
use Rattle.std.specs.Vec.{vec_len}
use Rattle.std.specs.Vec.Iter.{into_iter_items, into_iter_len}
use Rattle.cov_text.specs.Listing.{inserted, text_cmp}
use Rattle.cov_book.specs.Listed.{AreSorted, held_in, urls_in}
use Rattle.cov_book.specs.Room.{HasRoom, begins_behind, changes_in}
use Rattle.cov_book.specs.Renewed.{AreChanged, changed_scripts, changed_urls}
use Rattle.cov_book.proofs.Among.{room-next}
use Rattle.cov_book.proofs.Renewing.{put-next, rest-changed}
use Rattle.cov_book.proofs.Walking.{front-sorted, put-among, room-ahead}
use Rattle.cov_book.proofs.placing.put.Goals as goal

pub loop-update-init : goal.loop-update-init
loop-update-init c =
    let gives = c.into_iter-update-iterator.ensures.into_iter_gives in
    let us = c.in_ok-updates.updates in
    let whole : vec_len us ≡ length us.items = search rules in
    let are : changes_in (into_iter_items c.into_iter-update-iterator.result) ≡ c.args.changed.items = ap changes_in gives.0 ∙ c.in_ok-updates.ensures.changes in
    let all = c.in_ok-walk.ensures.all in
    record {
      order = subst AreSorted (sym all) c.requires.order;
      left = subst AreChanged (sym are) c.requires.changed;
      held = λ key. (λ i. option_or (held_in (changed_scripts (all i) (are i)) key) (held_in (all i) key));
      urls = (λ i. inserted text_cmp (urls_in (all i)) (changed_urls (are i)));
      room = subst (λ ss. AllByRecursion (HasRoom ss) (into_iter_items c.into_iter-update-iterator.result)) (c.deref.ensures.value ∙ sym all) (subst (AllByRecursion (HasRoom c.deref.result.now)) (sym gives.0) c.in_ok-updates.ensures.room);
      place = let room = c.in_ok-walk.ensures.room in let many = ap length c.deref-2.ensures.value in omega (arith, room, gives.1, whole, many);
      count = gives.1 ∙ whole ∙ ap length (sym gives.0);
    }

pub put_change-requires-clause-order : goal.put_change-requires-clause-order
put_change-requires-clause-order c = front-sorted c.go_to.new.done.items (reverse c.go_to.new.left.items) (subst AreSorted (sym c.go_to.ensures.all) c.loop-update.invariant.order)

pub put_change-requires-clause-fresh : goal.put_change-requires-clause-fresh
put_change-requires-clause-fresh c = (subst (λ us. AreChanged (changes_in us)) c.in-Some.ensures.steps.0 c.loop-update.invariant.left).fresh.0

pub put_change-requires-clause-room : goal.put_change-requires-clause-room
put_change-requires-clause-room c =
    let now = c.loop-update.walk.done.items ++ reverse c.loop-update.walk.left.items in
    let behind = subst (λ url. begins_behind url (reverse c.go_to.new.left.items) ≡ true) c.as_text.ensures c.go_to.ensures.behind in
    room-ahead c.in-Some.update c.go_to.new.done.items (reverse c.go_to.new.left.items) now c.loop-update.invariant.order c.go_to.ensures.all behind
    (subst (AllByRecursion (HasRoom now)) c.in-Some.ensures.steps.0 c.loop-update.invariant.room).0

pub put_change-requires-clause-place : goal.put_change-requires-clause-place
put_change-requires-clause-place c =
    let held = c.go_to.ensures.room (into_iter_len c.loop-update.update-iterator) c.loop-update.invariant.place in
    omega (arith, held, c.in-Some.ensures.steps.1)

pub loop-update-preserved : goal.loop-update-preserved
loop-update-preserved c =
    let u = c.in-Some.update in
    let inv = c.loop-update.invariant in
    let steps = c.in-Some.ensures.steps in
    let rest = into_iter_items c.next.new.self in
    let ss = c.loop-update.walk.done.items ++ reverse c.loop-update.walk.left.items in
    let tail = reverse c.go_to.new.left.items in
    let more = c.put_change.new.scripts.items ++ tail in
    let behind = subst (λ url. begins_behind url tail ≡ true) c.as_text.ensures c.go_to.ensures.behind in
    let left = subst (λ us. AreChanged (changes_in us)) steps.0 inv.left in
    let put = put-among u c.go_to.new.done.items c.put_change.new.scripts.items tail ss inv.order c.go_to.ensures.all behind c.put_change.ensures.put in
    record {
      order = put.order;
      left = rest-changed u.change (changes_in rest) left;
      held = λ key. put-next u.change (changes_in rest) ss more left put key ∙ ap (λ us. option_or (held_in (changed_scripts ss (changes_in us)) key) (held_in ss key)) (sym steps.0) ∙ inv.held key;
      urls = ap (λ us. inserted text_cmp us (changed_urls (changes_in rest))) put.urls ∙ sym (ap (λ us. inserted text_cmp (urls_in ss) (changed_urls (changes_in us))) steps.0) ∙ inv.urls;
      room = room-next u rest ss more left.urls put.others (subst (AllByRecursion (HasRoom ss)) steps.0 inv.room);
      place = let held = c.go_to.ensures.room (into_iter_len c.loop-update.update-iterator) inv.place in omega (arith, held, steps.1, c.put_change.ensures.len, c.put_change.ensures.capacity);
      count = let again = ap length steps.0 in omega (arith, steps.1, inv.count, again);
    }
