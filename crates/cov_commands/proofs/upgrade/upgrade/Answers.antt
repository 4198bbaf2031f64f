use Rattle.std.proofs.Common.{ap, ◌∙◌}
use Rattle.cov_model.specs.declared.report.ListForm.TheVariants.{Flat}
use Rattle.cov_commands.specs.Due.{file_answer, normal_file}
use Rattle.cov_commands.proofs.Tools.{reads-file}
use Rattle.cov_commands.proofs.upgrade.upgrade.Goals as goal

pub returns-in-Ok-judged : goal.returns-in-Ok-judged
returns-in-Ok-judged g c =
    reads-file _ _ Flat normal_file c.args.path.now c.in-Ok.bytes.items c.in-Ok-judged.due (λ files told. c.in-Ok.ensures.bytes files told)
    (c.in-Ok-judged.ensures ∙ ap (file_answer Flat normal_file c.args.path.now) c.as_slice.ensures.value) c.in-Ok.ensures.cause.kept
    (record { files = c.in-Ok.ensures.files; folders = c.in-Ok.ensures.folders; later = c.in-Ok.ensures.cause.later })
