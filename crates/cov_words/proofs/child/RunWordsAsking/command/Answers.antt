use Rattle.std.proofs.Common.{◌∙◌, ap₂}
use Rattle.std.proofs.lemmas.Result.{IfOk-weaker}
use Rattle.clap.specs.Words.{with_rule}
use Rattle.cov_words.proofs.child.RunWordsAsking.command.Goals as goal

pub returns : goal.returns
returns c =
    let first = c.in_ok-command.ensures.shape c.wanted_option.ensures.local ∙ ap₂ with_rule c.new.ensures.app c.wanted_option.ensures.rule in
    let second = c.in_ok-command-2.ensures.shape c.option.ensures.local ∙ ap₂ with_rule first c.option.ensures.rule in
    IfOk-weaker c.arg-3.result _ _ (λ command added. added.shape c.many.ensures.local ∙ ap₂ with_rule second c.many.ensures.rule) c.arg-3.ensures
