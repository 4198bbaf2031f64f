use Rattle.std.proofs.Common.{◌≡◌, true, sym, ap, ◌∙◌, subst}
use Rattle.std.proofs.lemmas.Result.{IfOk-weaker}
use Rattle.cov_model.specs.Nesting.{each_pair}
use Rattle.cov_ranges.specs.Front.{are_apart}
use Rattle.cov_ranges.specs.Order.{precedes}
use Rattle.cov_ranges.proofs.Sorted.{apart-permuted, pairs-from-sorted}
use Rattle.cov_ranges.proofs.front.all_apart.Goals as goal

pub nest_in_order-requires : goal.nest_in_order-requires
nest_in_order-requires c = pairs-from-sorted c.args.ranges.now (c.are_in_order.ensures.0 c.if-are_in_order.true)

pub nest_in_order-requires-2 : goal.nest_in_order-requires-2
nest_in_order-requires-2 c =
    subst (λ ranges. each_pair precedes ranges ≡ true) (sym c.as_slice.ensures.value) (pairs-from-sorted c.in_ok-ordered.ordered.items c.in_ok-ordered.ensures.sorted)

pub returns : goal.returns
returns c =
    IfOk-weaker c.nest_in_order-2.result (λ apart. apart ≡ are_apart c.as_slice.result.now) (λ apart. apart ≡ are_apart c.args.ranges.now)
    (λ apart e. e ∙ ap (λ l. are_apart l) c.as_slice.ensures.value ∙ sym (apart-permuted c.args.ranges.now c.in_ok-ordered.ordered.items c.in_ok-ordered.ensures.permutation))
    c.nest_in_order-2.ensures
