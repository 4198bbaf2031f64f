use Rattle.std.proofs.Common.{◌≡◌, ◌+◌, true, false, sym, ◌∙◌}
use Rattle.std.specs.List.{list_any}
use Rattle.cov_ranges.specs.Order.{ends_before}
use Rattle.cov_ranges.proofs.Stack.{popped, all-late}
use Rattle.cov_ranges.proofs.walk.close.Goals as goal

pub ended-preserved : goal.ended-preserved
ended-preserved c =
    let any : list_any (ends_before (c.args.start + 1)) c.ended.stack.items ≡ true =
    sym (c.ended-test.ensures ∙ (λ i. list_any (ends_before (c.from-behind.ensures i + 1)) (c.as_slice.ensures.value i))) in
    let p = popped c.args.start c.ended.stack.items c.pop.new.self.items c.pop.result c.pop.ensures.items c.ended.invariant.nested any in
    record { nested = p.nested; same = p.same ∙ c.ended.invariant.same }

pub returns : goal.returns
returns c =
    let none : list_any (ends_before (c.args.start + 1)) c.ended.stack.items ≡ false =
    sym (c.ended-test.ensures ∙ (λ i. list_any (ends_before (c.from-behind.ensures i + 1)) (c.as_slice.ensures.value i))) in
    sym (all-late c.args.start c.ended.stack.items none) ∙ c.ended.invariant.same
