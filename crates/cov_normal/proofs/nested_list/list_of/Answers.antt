use Rattle.std.proofs.Common.{◌≡◌, ◌∙◌, sym, ap, subst}
use Rattle.std.specs.Prelude.{IfOk}
use Rattle.cov_model.specs.Nesting.{inner_count}
use Rattle.cov_model.specs.Nested.{nested}
use Rattle.cov_steps.specs.Runs.{RunList, count_in, counted}
use Rattle.cov_normal.proofs.Counting.{nested-counted}
use Rattle.cov_normal.proofs.nested_list.list_of.Goals as goal

pub normal-requires : goal.normal-requires
normal-requires c =
    let is = c.in_ok-runs.ensures ∙ ap counted c.requires.is in
    record { starts = ap (λ (runs : RunList). runs.start) is; ends = ap (λ (runs : RunList). runs.end) is }

pub returns : goal.returns
returns c =
    let root = c.args.root in
    let rest = c.args.rest.now in
    let is = c.in_ok-runs.ensures ∙ ap counted c.requires.is in
    subst (λ list. IfOk c.normal.result (λ ranges. ranges ≡ list))
    (ap (λ (runs : RunList). nested root.start root.end root.count (count_in runs.runs)) is ∙ nested-counted root rest
    ∙ ap (λ ranges. nested root.start root.end root.count (inner_count ranges)) (sym c.requires.is)) c.normal.ensures
