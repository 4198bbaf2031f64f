use Rattle.std.proofs.Common.{◌∙◌, ap₂}
use Rattle.std.proofs.lemmas.Result.{IfOk-weaker}
use Rattle.clap.specs.Words.{with_rule}
use Rattle.cov_words.proofs.options.CheckWordsAsking.command.Goals as goal

pub returns : goal.returns
returns c =
    let first = c.in_ok-command.ensures.shape c.wanted.ensures.local ∙ ap₂ with_rule c.new.ensures.app c.wanted.ensures.rule in
    let second = c.in_ok-command-2.ensures.shape c.percent.ensures.local ∙ ap₂ with_rule first c.percent.ensures.rule in
    let third = c.in_ok-command-3.ensures.shape c.percent-2.ensures.local ∙ ap₂ with_rule second c.percent-2.ensures.rule in
    IfOk-weaker c.arg-4.result _ _ (λ command added. added.shape c.percent-3.ensures.local ∙ ap₂ with_rule third c.percent-3.ensures.rule) c.arg-4.ensures
