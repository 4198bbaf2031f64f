use Rattle.std.proofs.Common.{sym, ◌∙◌}
use Rattle.std.proofs.lemmas.Result.{IfOk-weaker}
use Rattle.cov_model.specs.declared.report.ListForm.TheVariants.{Nested}
use Rattle.cov_commands.specs.Due.{normal_word}
use Rattle.cov_commands.proofs.Answered.{file-due}
use Rattle.cov_commands.proofs.normal.judged.Goals as goal

pub returns-in-Ok : goal.returns-in-Ok
returns-in-Ok c =
    let read = c.in-Ok.ensures.ok in
    IfOk-weaker c.normal_word.result _ _ (λ due is. is ∙ sym (file-due Nested normal_word c.args.path.now c.args.bytes.now read.snapshot read.normal)) c.normal_word.ensures
