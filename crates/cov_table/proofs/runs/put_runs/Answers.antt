use Rattle.std.proofs.Common.{◌∙◌}
use Rattle.std.proofs.lemmas.Result.{on_ok_weaker}
use Rattle.cov_table.proofs.Running.{field_put}
use Rattle.cov_table.proofs.runs.put_runs.Goals as goal

pub returns : goal.returns
returns c =
    let is = c.in-Some.ensures.cases.0 in
    let whole =
    field_put c.args.text.now.items c.put.new.text.items c.put_run.new.text.items c.in-Some.first.now c.in-Some.rest.now c.args.runs.now is
    c.in_ok-put.ensures.put c.in_ok-put_run.ensures in
    on_ok_weaker c.put_more_runs.result (λ e. e ∙ whole) c.put_more_runs.ensures
