use Rattle.std.proofs.Common.{◌≡◌, subst}
use Rattle.std.specs.Prelude.{IfOk}
use Rattle.cov_normal.proofs.One.{flat-runs}
use Rattle.cov_normal.proofs.flat_list.flat.Goals as goal

pub returns : goal.returns
returns c =
    let runs = c.args.runs.now in
    subst (λ list. IfOk c.listed.result (λ ranges. ranges ≡ list))
    (flat-runs c.args.start c.args.end c.args.root runs.runs runs.start runs.end c.requires.starts c.requires.ends c.listed.ensures.runs) c.listed.ensures.list
