use Rattle.std.proofs.Common.{◌≡◌, ◌++◌, length, sym, ap, ◌∙◌, subst, arith, rules}
use Rattle.std.specs.List.{AllByRecursion}
use Rattle.std.specs.Vec.{vec_len}
use Rattle.std.specs.Vec.Iter.{into_iter_items}
use Rattle.std.proofs.lemmas.List.{append-nil}
use Rattle.cov_book.specs.declared.placing.Update.{Update}
use Rattle.cov_book.specs.Room.{HasRoom, changes_in}
use Rattle.cov_book.proofs.Nested.{All-push}
use Rattle.cov_book.proofs.Placed.{none-left, changes-push}
use Rattle.cov_book.proofs.placing.updates_of.Goals as goal

pub loop-change-init : goal.loop-change-init
loop-change-init c =
    let gives = c.into_iter-change-iterator.ensures.into_iter_gives in
    let whole : vec_len c.args.changed ≡ length c.args.changed.items = search rules in
    record {
      made = ap (λ us. changes_in us ++ into_iter_items c.into_iter-change-iterator.result) c.new-updates.ensures.items ∙ gives.0;
      room = subst (AllByRecursion (HasRoom c.args.scripts.now)) (sym c.new-updates.ensures.items) tt;
      count = gives.1 ∙ whole ∙ ap length (sym gives.0);
    }

pub loop-change-preserved : goal.loop-change-preserved
loop-change-preserved c =
    let inv = c.loop-change.invariant in
    let steps = c.in-Some.ensures.steps in
    let u : Update = record { change = c.in-Some.change; room = c.in_ok-room.room } in
    let pushed = c.in_ok-push.ensures.items in
    record {
      made =
          ap (λ us. changes_in us ++ into_iter_items c.next.new.self) pushed
          ∙ changes-push c.loop-change.updates.items u (into_iter_items c.next.new.self)
          ∙ ap (λ ss. changes_in c.loop-change.updates.items ++ ss) (sym steps.0)
          ∙ inv.made;
      room = subst (AllByRecursion (HasRoom c.args.scripts.now)) (sym pushed)
          (All-push (HasRoom c.args.scripts.now) c.loop-change.updates.items u inv.room (record { empty = c.in_ok-room.ensures.empty; len = c.in_ok-room.ensures.len; room = c.in_ok-room.ensures.room }));
      count = let more = ap length steps.0 in omega (arith, steps.1, inv.count, more);
    }

pub returns-clause-changes : goal.returns-clause-changes
returns-clause-changes c =
    let inv = c.loop-change.invariant in
    let none = none-left (into_iter_items c.loop-change.change-iterator) (let len = c.in-None.ensures.steps.0 in omega (arith, len, inv.count)) in
    sym (append-nil _) ∙ ap (λ ss. changes_in c.loop-change.updates.items ++ ss) (sym none) ∙ inv.made
