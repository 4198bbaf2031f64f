use Rattle.std.proofs.Common.{[], ◌∷◌, sym, ◌∙◌}
use Rattle.std.proofs.lemmas.Result.{IfOk-weaker}
use Rattle.cov_model.specs.declared.report.ListForm.TheVariants.{Flat}
use Rattle.cov_commands.specs.Due.{normal_file}
use Rattle.cov_commands.proofs.Answered.{file-due}
use Rattle.cov_commands.proofs.upgrade.judged.Goals as goal

pub returns-in-Ok : goal.returns-in-Ok
returns-in-Ok c =
    let read = c.in-Ok.ensures.ok in
    IfOk-weaker c.normal_file.result _ _
    (λ due is. is (read.snapshot ∷ []) read.stands ∙ sym (file-due Flat normal_file c.args.path.now c.args.bytes.now read.snapshot read.normal)) c.normal_file.ensures
