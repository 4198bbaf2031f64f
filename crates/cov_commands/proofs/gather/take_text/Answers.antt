use Rattle.std.proofs.Common.{◌++◌, subst}
use Rattle.cov_model.specs.declared.sums.Answer.{Answer}
use Rattle.cov_report.specs.First.{AreFirsts}
use Rattle.cov_report.specs.Texts.{entries_if_taken}
use Rattle.cov_commands.specs.Gather.{kept_if}
use Rattle.cov_commands.proofs.gather.take_text.Goals as goal

pub returns-clause-entries : goal.returns-clause-entries
returns-clause-entries c = λ held all stands are.
    subst (λ (a : Answer). AreFirsts (all ++ kept_if c.args.maps (entries_if_taken c.args.bytes.items a)) c.answer_of.new.entries)
    (c.in_ok-answer.ensures.answer held stands) (c.in_ok-answer.ensures.entries all are)
