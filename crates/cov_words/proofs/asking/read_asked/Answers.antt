use Rattle.std.proofs.Common.{sym, ap, ◌∙◌}
use Rattle.std.specs.Prelude.{map, string_bytes}
use Rattle.std.proofs.lemmas.Result.{IfOk-weaker, IfErr-weaker}
use Rattle.clap.specs.Words.{App, is_simple_and_free}
use Rattle.cov_words.specs.Asked.{asked}
use Rattle.cov_words.proofs.Given.{asked-found, asked-none}
use Rattle.cov_words.proofs.asking.read_asked.Goals as goal

pub matches_of-requires : goal.matches_of-requires
matches_of-requires g c = ap is_simple_and_free c.in-Ok.ensures ∙ g.met.A.Asking.simple

pub returns-in-Ok-matches_of-clause-ok : goal.returns-in-Ok-matches_of-clause-ok
returns-in-Ok-matches_of-clause-ok g c =
    let words = map string_bytes c.args.words.now in
    let read = g.A.Asking.from in
    let is = ap (λ (app : App). asked app read words) (sym c.in-Ok.ensures) ∙ asked-found _ words _ c.in-Ok-matches_of.ensures.ok read in
    IfOk-weaker c.told.result _ _ (λ told found. is ∙ found) c.told.ensures.ok

pub returns-in-Ok-matches_of-clause-usage : goal.returns-in-Ok-matches_of-clause-usage
returns-in-Ok-matches_of-clause-usage g c =
    let words = map string_bytes c.args.words.now in
    let read = g.A.Asking.from in
    let is = ap (λ (app : App). asked app read words) (sym c.in-Ok.ensures) ∙ asked-found _ words _ c.in-Ok-matches_of.ensures.ok read in
    IfErr-weaker c.told.result _ _ (λ fault none usage. is ∙ none usage) c.told.ensures.usage

pub returns-in-Err-clause-usage : goal.returns-in-Err-clause-usage
returns-in-Err-clause-usage g c =
    let words = map string_bytes c.args.words.now in
    λ usage. ap (λ (app : App). asked app g.A.Asking.from words) (sym c.in-Ok.ensures) ∙ asked-none _ words (c.in-Err.ensures.usage usage) g.A.Asking.from
