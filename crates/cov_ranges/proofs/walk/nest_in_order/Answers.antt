use Rattle.std.proofs.Common.{ap, ◌∙◌}
use Rattle.cov_model.specs.Nesting.{each_pair, is_within}
use Rattle.cov_ranges.proofs.Pairs.{pairs-filtered}
use Rattle.cov_ranges.proofs.Stack.{stop-at, go-on-at}
use Rattle.cov_ranges.proofs.walk.nest_in_order.Goals as goal

pub any_ends_before-requires : goal.any_ends_before-requires
any_ends_before-requires c =
    ap (λ l. each_pair is_within l) (c.as_slice.ensures.value ∙ c.close.ensures) ∙ pairs-filtered _ is_within c.loop-r.stack.items c.loop-r.invariant.nested

pub returns-then-any_ends_before : goal.returns-then-any_ends_before
returns-then-any_ends_before c =
    stop-at c.args.ranges.now c.loop-r.stack.items c.close.new.stack.items c.as_slice.result.now c.loop-r.r-index c.from.result (record { start = 0; end = 0; count = 0 })
    c.loop-r.invariant c.loop-r-test.true c.close.ensures c.as_slice.ensures.value c.from.ensures c.if-any_ends_before.ensures

pub loop-r-preserved : goal.loop-r-preserved
loop-r-preserved c =
    go-on-at c.args.ranges.now c.loop-r.stack.items c.close.new.stack.items c.as_slice.result.now c.push.new.self.items c.loop-r.r-index c.from.result (record { start = 0; end = 0; count = 0 })
    c.loop-r.invariant c.loop-r-test.true c.close.ensures c.as_slice.ensures.value c.from.ensures c.if-any_ends_before.ensures c.in_ok-push.ensures.items
