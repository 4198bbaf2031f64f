use Rattle.std.proofs.Common.{◌∙◌, sym, ap, subst, arith}
use Rattle.cov_steps.specs.Walking.{open_count, Painted}
use Rattle.cov_steps.proofs.Open.{open-closed, painted-done, painted-closed}
use Rattle.cov_steps.proofs.counted.reach.Goals as goal

pub returns-then-to-top-clause-runs : goal.returns-then-to-top-clause-runs
returns-then-to-top-clause-runs c = λ start f p.
    painted-done f start c.loop-top.at c.args.to c.args.to c.min-end.result c.pop.new.self.items c.loop-top.runs.items c.push_between.new.runs.items c.in-Some.top
    (subst (λ rs. Painted f start c.loop-top.at c.args.to rs c.loop-top.runs.items) c.in-Some.ensures.items (c.loop-top.invariant.painted start f p))
    (omega arith) (omega arith) (omega arith) c.in_ok-push_between.ensures

pub loop-top-preserved : goal.loop-top-preserved
loop-top-preserved c = record {
  within = omega arith;
  painted = λ start f p.
      painted-closed f start c.loop-top.at c.args.to c.max-at.result c.min-end.result c.pop.new.self.items c.loop-top.runs.items c.push_between.new.runs.items c.in-Some.top
      (subst (λ rs. Painted f start c.loop-top.at c.args.to rs c.loop-top.runs.items) c.in-Some.ensures.items (c.loop-top.invariant.painted start f p))
      (omega arith) (omega arith) (omega arith) c.in_ok-push_between.ensures;
  rest = λ o low.
      sym (open-closed c.pop.new.self.items c.in-Some.top o (omega arith)) ∙ ap (λ rs. open_count rs o) (sym c.in-Some.ensures.items) ∙ c.loop-top.invariant.rest o low;
}
