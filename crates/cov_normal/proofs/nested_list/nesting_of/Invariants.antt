use Rattle.std.proofs.Common.{ℕ, drop}
use Rattle.std.specs.Ordering.{nat_cmp}
use Rattle.std.specs.BTreeMap.{get}
use Rattle.cov_steps.specs.Runs.{count_in}
use Rattle.cov_normal.specs.Stack.{IsNesting, AllShow}
use Rattle.cov_normal.proofs.nested_list.nesting_of.Given as goal

-- the runs before `at` were read, and those that are left go on from there
abbrev pub invariant-loop-i : goal.invariant-loop-i
invariant-loop-i g l =
    let f = count_in l.runs.runs in
    (at : ℕ) × IsNesting f l.runs.start l.root at l.nesting.ranges.items l.nesting.stack.items (get nat_cmp l.nesting.heights) × AllShow f at l.runs.end (drop l.i l.runs.runs)
