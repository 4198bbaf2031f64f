use Rattle.std.proofs.Common.{◌≡◌, ◌∙◌, IfOk, sym, ap, subst}
use Rattle.std.specs.Prelude.{unwrap_or}
use Rattle.cov_model.specs.Normal.{maximal_runs}
use Rattle.cov_steps.specs.Walking.{Walkable, last_at}
use Rattle.cov_steps.proofs.Rooted.{sorted-from, sorted-itself}
use Rattle.cov_steps.proofs.counted.runs_of.Goals as goal

pub runs_in_order-requires : goal.runs_in_order-requires
runs_in_order-requires c = (sorted-itself c.args.ranges.now c.args.root c.requires.faultless c.requires.root (c.are_in_order.ensures.0 c.if-are_in_order.true)).walk

pub returns-then-are_in_order : goal.returns-then-are_in_order
returns-then-are_in_order c =
    let sorted = sorted-itself c.args.ranges.now c.args.root c.requires.faultless c.requires.root (c.are_in_order.ensures.0 c.if-are_in_order.true) in
    subst (λ expected. IfOk c.runs_in_order.result (λ runs. runs.items ≡ expected)) sorted.counts c.runs_in_order.ensures

pub runs_in_order-requires-2 : goal.runs_in_order-requires-2
runs_in_order-requires-2 c =
    let sorted =
    sorted-from c.args.ranges.now c.in_ok-ordered.ordered.items c.args.root c.requires.faultless c.requires.root c.in_ok-ordered.ensures.permutation c.in_ok-ordered.ensures.sorted c.in_ok-ordered.ensures.stable in
    subst (λ rs. Walkable c.args.root rs) (sym c.as_slice.ensures.value) sorted.walk

pub returns : goal.returns
returns c =
    let root = c.args.root in
    let sorted =
    sorted-from c.args.ranges.now c.in_ok-ordered.ordered.items root c.requires.faultless c.requires.root c.in_ok-ordered.ensures.permutation c.in_ok-ordered.ensures.sorted c.in_ok-ordered.ensures.stable in
    let counts = ap (λ rs. maximal_runs root.start root.end (λ o. unwrap_or (last_at rs o) 0)) c.as_slice.ensures.value ∙ sorted.counts in
    subst (λ expected. IfOk c.runs_in_order-2.result (λ runs. runs.items ≡ expected)) counts c.runs_in_order-2.ensures
