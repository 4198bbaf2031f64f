use Rattle.std.proofs.Common.{◌≡◌, length, sym, ◌∙◌, rules}
use Rattle.std.specs.Vec.{vec_len}
use Rattle.cov_book.specs.Joining.{by_lasts, last_of}
use Rattle.cov_book.proofs.Joining.{none-new, pop-both, pop-new, pop-old}
use Rattle.cov_book.proofs.placing.take_last.Goals as goal

pub returns-in-Less-clause-taken : goal.returns-in-Less-clause-taken
returns-in-Less-clause-taken c =
    let order = sym (c.in-Less.ensures ∙ (λ i. by_lasts (last_of (c.deref.ensures.value i)) (last_of (c.deref-2.ensures.value i)))) in
    pop-new c.args.held.now.items c.args.new.now.items c.pop.new.self.items c.pop.result c.pop.ensures.items order

pub returns-in-Less-clause-none : goal.returns-in-Less-clause-none
returns-in-Less-clause-none c = λ none.
    let order = sym (c.in-Less.ensures ∙ (λ i. by_lasts (last_of (c.deref.ensures.value i)) (last_of (c.deref-2.ensures.value i)))) in
    let len : vec_len c.args.new.now ≡ length c.args.new.now.items = search rules in
    none-new c.args.held.now.items c.args.new.now.items c.pop.result (vec_len c.args.new.now) (vec_len c.pop.new.self) len c.pop.ensures.cases order none

pub returns-in-Equal-clause-taken : goal.returns-in-Equal-clause-taken
returns-in-Equal-clause-taken c =
    let order = sym (c.in-Equal.ensures ∙ (λ i. by_lasts (last_of (c.deref.ensures.value i)) (last_of (c.deref-2.ensures.value i)))) in
    let len : vec_len c.args.held.now ≡ length c.args.held.now.items = search rules in
    pop-both c.args.held.now.items c.args.new.now.items c.pop-in-Equal.new.self.items c.pop-in-Equal-2.new.self.items c.pop-in-Equal.result c.pop-in-Equal-2.result
    (vec_len c.args.held.now) (vec_len c.pop-in-Equal.new.self) c.pop-in-Equal.ensures.items c.pop-in-Equal-2.ensures.items len c.pop-in-Equal.ensures.cases order

pub returns-in-Greater-clause-taken : goal.returns-in-Greater-clause-taken
returns-in-Greater-clause-taken c =
    let order = sym (c.in-Greater.ensures ∙ (λ i. by_lasts (last_of (c.deref.ensures.value i)) (last_of (c.deref-2.ensures.value i)))) in
    pop-old c.args.held.now.items c.args.new.now.items c.pop-in-Greater.new.self.items c.pop-in-Greater.result c.pop-in-Greater.ensures.items order
