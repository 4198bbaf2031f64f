use Rattle.std.proofs.Common.{ap, sym, ◌∙◌, codes, option_map}
use Rattle.serde_json.specs.Find.{get}
use Rattle.serde_json.specs.View.{view}
use Rattle.serde_json.proofs.Views.{view-lookup, view-Object}
use Rattle.cov_messages.proofs.message.result_of.Goals as goal

pub returns-in-Object : goal.returns-in-Object
returns-in-Object c =
    ap (option_map view) c.remove.ensures.value ∙ (view-lookup (codes "result") c.in-Object.members.entries ∙ sym (ap (get (codes "result")) (ap view c.in-Object.is ∙ view-Object c.in-Object.members)))
