use Rattle.std.proofs.Common.{◌∙◌, ap₂}
use Rattle.std.proofs.lemmas.Result.{IfOk-weaker}
use Rattle.clap.specs.Words.{with_rule}
use Rattle.cov_words.proofs.files.SameWordsAsking.command.Goals as goal

pub returns : goal.returns
returns c =
    let first = c.in_ok-command.ensures.shape c.wanted.ensures.local ∙ ap₂ with_rule c.new.ensures.app c.wanted.ensures.rule in
    IfOk-weaker c.arg-2.result _ _ (λ command added. added.shape c.wanted-2.ensures.local ∙ ap₂ with_rule first c.wanted-2.ensures.rule) c.arg-2.ensures
