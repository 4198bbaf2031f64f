use Rattle.std.proofs.Common.{◌≡◌, sym, ◌∙◌, subst}
use Rattle.std.proofs.lemmas.Result.{IfOk-weaker}
use Rattle.cov_files.specs.Normal.{TellsWhy}
use Rattle.cov_files.specs.declared.normal.NormalFault.{NormalFault}
use Rattle.cov_files.specs.declared.normal.NormalFault.TheVariants.{TooLong, NotNormal}
use Rattle.cov_commands.proofs.Answered.{none-due}
use Rattle.cov_commands.proofs.judge.refused_file.Goals as goal

pub returns-in-NotNormal : goal.returns-in-NotNormal
returns-in-NotNormal c =
    let is = c.in-NotNormal.is in
    IfOk-weaker c.refused_for-in-NotNormal.result _ _
    (λ due told form said bytes why long.
    told
    ∙ sym (none-due form said c.args.path.now bytes (λ longer. let both : NotNormal ≡ TooLong = sym is ∙ long longer in cc) (subst (λ (fault : NormalFault). TellsWhy form fault bytes) is why)))
    c.refused_for-in-NotNormal.ensures
