use Rattle.std.proofs.Common.{ap, ◌∙◌}
use Rattle.cov_model.specs.Nested.{nested}
use Rattle.cov_steps.specs.Runs.{count_in}
use Rattle.cov_session.proofs.Cut.{cut_list}
use Rattle.cov_session.proofs.seeing.cut_under.Goals as goal

pub returns : goal.returns
returns c =
    let root = c.args.root in
    let runs = c.in_ok-runs.runs in
    c.in_ok-list.ensures ∙ ap (λ n. nested root.start root.end n (count_in runs.runs)) c.min.ensures
    ∙ cut_list c.args.report.now.ranges c.args.rest.now root runs c.requires.is c.in_ok-runs.ensures
