use Rattle.std.proofs.Common.{◌∙◌, subst}
use Rattle.std.specs.Ordering.{nat_cmp}
use Rattle.std.specs.BTreeMap.{get}
use Rattle.cov_steps.specs.Runs.{count_in}
use Rattle.cov_normal.specs.Stack.{IsNesting}
use Rattle.cov_normal.proofs.Stacked.{nesting-end}
use Rattle.cov_normal.proofs.nested_list.normal.Goals as goal

pub returns : goal.returns
returns c =
    let runs = c.args.runs.now in
    let f = count_in runs.runs in
    let made = c.in_ok-nesting.nesting in
    let heights = get nat_cmp made.heights in
    let nesting = subst (λ e. IsNesting f c.args.start c.args.root e made.ranges.items made.stack.items heights) c.requires.ends
    (subst (λ s. IsNesting f s c.args.root runs.end made.ranges.items made.stack.items heights) c.requires.starts c.in_ok-nesting.ensures) in
    c.from_vec.ensures ∙ c.finish.ensures ∙ nesting-end f c.args.start c.args.root c.args.end made.ranges.items made.stack.items heights nesting
