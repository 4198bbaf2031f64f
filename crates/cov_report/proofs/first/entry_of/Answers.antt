use Rattle.std.proofs.Common.{◌≡◌, ◌∙◌, ap, sym}
use Rattle.std.specs.Prelude.{None, Some, option_map}
use Rattle.cov_report.proofs.Firsts.{entry-found, item-at}
use Rattle.cov_report.proofs.first.entry_of.Goals as goal

pub returns-in_err-place : goal.returns-in_err-place
returns-in_err-place c =
    entry-found c.args.entries.now c.args.url.now None c.from_residual.result (c.in_err-place.ensures.value ∙ c.requires c.args.url) (ap (option_map (λ e. e.now)) c.from_residual.ensures)

pub returns : goal.returns
returns c =
    entry-found c.args.entries.now c.args.url.now (Some c.in_ok-place.field-0.now) c.get-2.result (c.in_ok-place.ensures.value ∙ c.requires c.args.url) (item-at c.args.entries.now c.in_ok-place.field-0.now c.get-2.result c.get-2.ensures.lookup)
