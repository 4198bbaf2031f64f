use Rattle.std.proofs.Common.{length, ap, ap₂, ◌∙◌}
use Rattle.std.proofs.lemmas.Result.{IfOk-weaker}
use Rattle.made_snapshots.specs.Made.{made}
use Rattle.made_summary.specs.Line.{summary_line}
use Rattle.made_summary.proofs.making.made_line.Goals as goal

pub returns : goal.returns
returns g c =
    let all = made c.args.seed c.args.count in
    let stands = c.in_ok-book.ensures in
    IfOk-weaker c.summary.result _ _
    (λ line is. is ∙ ap₂ (summary_line c.args.count) (c.in_ok-numbers.ensures all stands) (ap length (c.as_slice.ensures.value ∙ c.in_ok-file.ensures all stands)))
    c.summary.ensures
