use Rattle.std.proofs.Common.{◌≤◌, sym, subst, refl, arith, length}
use Rattle.std.specs.Ordering.{nat_cmp}
use Rattle.std.specs.BTreeMap.{get}
use Rattle.cov_steps.specs.Runs.{count_in}
use Rattle.cov_normal.specs.Stack.{IsNesting}
use Rattle.cov_normal.proofs.Shown.{all-show, runs-end-to-end, show-next, show-end}
use Rattle.cov_normal.proofs.nested_list.nesting_of.Goals as goal

pub loop-i-init : goal.loop-i-init
loop-i-init g c =
    let runs = c.args.runs.now in
    let f = count_in runs.runs in
    let nesting = c.in_ok-nesting.nesting in
    let start = c.start.ensures.value in
    let made = c.in_ok-nesting.ensures f in (
      runs.start,
      subst (λ s. IsNesting f s c.args.root s nesting.ranges.items nesting.stack.items (get nat_cmp nesting.heights)) start made,
      all-show f runs.start runs.end runs.runs (runs-end-to-end runs.start runs.end runs.runs c.start.ensures.kept) (λ o low. refl),
    )

pub loop-i-preserved : goal.loop-i-preserved
loop-i-preserved g c =
    let runs = c.args.runs.now in
    let f = count_in runs.runs in
    let run = c.get.result in
    let nesting = c.loop-i.nesting in
    let had = c.loop-i.invariant in
    let next = show-next f had.0 runs.end c.loop-i.i runs.runs run c.get.ensures.value had.2 in (
      run.end,
      c.in_ok-go_on.ensures f runs.start c.args.root
          (subst (λ at. IsNesting f runs.start c.args.root at nesting.ranges.items nesting.stack.items (get nat_cmp nesting.heights)) (sym next.0) had.1) next.1,
      next.2,
    )

pub returns : goal.returns
returns g c =
    let runs = c.args.runs.now in
    let f = count_in runs.runs in
    let nesting = c.loop-i.nesting in
    let had = c.loop-i.invariant in
    let all : length runs.runs ≤ c.loop-i.i = omega arith in
    subst (λ at. IsNesting f runs.start c.args.root at nesting.ranges.items nesting.stack.items (get nat_cmp nesting.heights)) (show-end f had.0 runs.end c.loop-i.i runs.runs all had.2) had.1
