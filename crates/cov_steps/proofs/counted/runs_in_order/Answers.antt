use Rattle.std.proofs.Common.{◌∙◌, sym, ap, arith}
use Rattle.std.specs.Prelude.{slice_index_or, unwrap_or}
use Rattle.cov_model.specs.Normal.{range}
use Rattle.cov_steps.specs.Walking.{last_at, open_count}
use Rattle.cov_steps.proofs.Maximal.{maximal_runs-none}
use Rattle.cov_steps.proofs.Rooted.{within-root, starts-at, starts-next, starts-more, starts-none, counts-so-far, counts-more}
use Rattle.cov_steps.proofs.counted.runs_in_order.Goals as goal

pub loop-r-init : goal.loop-r-init
loop-r-init c = record {
  from = omega arith;
  to = c.requires.nonempty;
  rest = c.requires.starts;
  runs = c.new-runs.ensures.items ∙ sym (maximal_runs-none c.args.root.start (λ o. unwrap_or (last_at c.args.ranges.now o) 0));
  counts = λ o low. ap (λ rs. open_count rs o) c.new-opened.ensures.items;
}

pub loop-r-preserved : goal.loop-r-preserved
loop-r-preserved c =
    let ranges = c.args.ranges.now in
    let root = c.args.root in
    let i = c.loop-r.r-index in
    let at = c.loop-r.at in
    let r = slice_index_or ranges i (range 0 0 0) in
    let before = c.loop-r.invariant in
    let low = starts-at at ranges i (range 0 0 0) before.rest c.loop-r-test.true in
    let end = within-root ranges root (range 0 0 0) i c.requires.within c.loop-r-test.true in
    let rest = starts-next ranges i (range 0 0 0) c.requires.order c.loop-r-test.true in
    record {
      from = omega (arith, low, before.from);
      to = end;
      rest = starts-more r.start ranges i rest;
      runs = c.in_ok-reach.ensures.runs root.start (λ o. unwrap_or (last_at ranges o) 0)
          (record {
            from = before.from;
            done = before.runs;
            counts = counts-so-far ranges root i at r.start c.loop-r.opened.items c.requires.covered before.from end rest before.counts;
          });
      counts = λ o from.
          counts-more ranges i (range 0 0 0) c.reach.new.opened.items c.push.new.self.items o c.loop-r-test.true from c.in_ok-push.ensures.items
          (c.in_ok-reach.ensures.rest o from ∙ before.counts o (omega (arith, low, from)));
    }

pub returns : goal.returns
returns c =
    let ranges = c.args.ranges.now in
    let root = c.args.root in
    let before = c.loop-r.invariant in
    c.in_ok-reach-2.ensures.runs root.start (λ o. unwrap_or (last_at ranges o) 0)
    (record {
      from = before.from;
      done = before.runs;
      counts =
          counts-so-far ranges root c.loop-r.r-index c.loop-r.at root.end c.loop-r.opened.items c.requires.covered before.from (omega arith)
          (starts-none root.end ranges c.loop-r.r-index c.loop-r-test.false) before.counts;
    })
