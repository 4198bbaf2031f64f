use Rattle.std.proofs.Common.{◌≡◌, ◌+◌, ◌<◌, ◌≤◌, ◌∙◌, sym, ap, inl, inr, length, drop, subst, arith}
use Rattle.std.proofs.lemmas.Bool.{cases_lt}
use Rattle.cov_model.specs.Normal.{range}
use Rattle.cov_text.specs.Listing.{limit}
use Rattle.cov_steps.specs.Runs.{sum_at}
use Rattle.cov_steps.proofs.Ends.{length-pushed}
use Rattle.cov_steps.proofs.Maximal.{AreRuns-ordered}
use Rattle.cov_steps.proofs.Walks.{maximal_runs-empty, walked-start, walked-on, sum_at-walked, sum-more, fits-more}
use Rattle.cov_steps.proofs.sum.summed.Goals as goal

pub loop-at-init : goal.loop-at-init
loop-at-init g c =
    let held = c.args.held.now in
    let added = c.args.added.now in
    let at = c.start-start.result in
    let here : at ≡ held.start = c.start-start.ensures.value in
    let there : at ≡ added.start = here ∙ c.requires.starts in
    let left : c.side_before-left.result.run.end ≡ held.start = c.side_before-left.ensures.end ∙ here in
    let right : c.side_before-right.result.run.end ≡ added.start = c.side_before-right.ensures.end ∙ c.start.ensures.value in
    record {
      from = omega arith;
      to = omega (arith, AreRuns-ordered held.start held.end held.runs c.start-start.ensures.kept);
      left = walked-start held.runs held.start held.end c.side_before-left.result.next at c.side_before-left.result.run c.start-start.ensures.kept c.side_before-left.ensures.next here left;
      right = walked-start added.runs added.start added.end c.side_before-right.result.next at c.side_before-right.result.run c.start.ensures.kept c.side_before-right.ensures.next there right;
      ended = inl c.side_before-left.ensures.end;
      sum = c.new-sum.ensures.items ∙ sym (maximal_runs-empty held.start at (sum_at held added) here);
      fits = λ o low high. absurd (omega arith);
      cost = omega arith;
      size = omega (arith, ap length c.new-sum.ensures.items);
    }

pub loop-at-preserved : goal.loop-at-preserved
loop-at-preserved g c =
    let held = c.args.held.now in
    let added = c.args.added.now in
    let at = c.loop-at.at in
    let next = c.min-next.result in
    let left = c.side_at-left.result in
    let right = c.side_at-right.result in
    let before = c.loop-at.invariant in
    let wl = c.side_at-left.ensures.walked in
    let wr = c.side_at-right.ensures.walked in
    let low : at < next = omega arith in
    let ll : next ≤ left.run.end = omega arith in
    let lr : next ≤ right.run.end = omega arith in
    let count = c.in_ok-count.count in
    let is : count ≡ left.run.count + right.run.count = c.in_ok-count.ensures.sum in
    record {
      from = omega arith;
      to = omega (arith, AreRuns-ordered left.run.end held.end (drop left.next held.runs) wl.rest);
      left = walked-on held.runs held.end left.next at next left.run wl (omega arith) ll;
      right = walked-on added.runs added.end right.next at next right.run wr (omega arith) lr;
      ended = elim (cases_lt left.run.end right.run.end) [ inl lt ↦ inl (omega arith) | inr le ↦ inr (omega arith) ];
      sum = sum-more held added at next left.next right.next left.run right.run count c.loop-at.sum.items c.push_run.new.runs.items wl wr before.from low ll lr is before.sum c.in_ok-push_run.ensures;
      fits = fits-more held added at next count before.fits (sum_at-walked held added at next left.next right.next left.run right.run count wl wr ll lr is) (subst (λ n. n ≤ limit) (sym is) c.in_ok-count.ensures.fits);
      cost = omega arith;
      size =
          elim before.ended [
            | inl ends ↦ let read : left.next ≡ c.loop-at.left.next + 1 = c.side_at-left.ensures.read (omega arith) in omega (arith, length-pushed c.loop-at.sum.items (range at next count), ap length c.in_ok-push_run.ensures)
            | inr ends ↦ let read : right.next ≡ c.loop-at.right.next + 1 = c.side_at-right.ensures.read (omega arith) in omega (arith, length-pushed c.loop-at.sum.items (range at next count), ap length c.in_ok-push_run.ensures)
          ];
    }
