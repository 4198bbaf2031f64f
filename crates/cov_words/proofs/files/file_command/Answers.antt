use Rattle.std.proofs.Common.{◌∙◌, ap₂}
use Rattle.std.proofs.lemmas.Result.{IfOk-weaker}
use Rattle.clap.specs.Words.{with_rule}
use Rattle.cov_words.proofs.files.file_command.Goals as goal

pub returns : goal.returns
returns c = IfOk-weaker c.arg.result _ _ (λ command added. added.shape c.wanted.ensures.local ∙ ap₂ with_rule c.new.ensures.app c.wanted.ensures.rule) c.arg.ensures
