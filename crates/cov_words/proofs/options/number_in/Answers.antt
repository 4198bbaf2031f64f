use Rattle.std.proofs.Common.{◌≤◌, sym, ap, ◌∙◌, arith}
use Rattle.std.specs.Prelude.{option_and_then}
use Rattle.clap.specs.Words.{found_of}
use Rattle.clap.proofs.WalkLemmas.{one_text-rows}
use Rattle.cov_words.specs.Asked.{number_in}
use Rattle.cov_words.proofs.Numbers.{number-some, number-outside, number-nothing}
use Rattle.cov_words.proofs.options.number_in.Goals as goal

pub returns-in_default-clause-usage : goal.returns-in_default-clause-usage
returns-in_default-clause-usage c =
    λ _. ap (option_and_then (number_in c.args.least c.args.most)) (sym (one_text-rows (found_of c.args.matches.now) c.args.name.now))
    ∙ number-nothing c.args.least c.args.most _ c.in_default.ensures.value

pub returns-then-number-least-clause-usage : goal.returns-then-number-least-clause-usage
returns-then-number-least-clause-usage c =
    λ _. ap (option_and_then (number_in c.args.least c.args.most)) (sym (one_text-rows (found_of c.args.matches.now) c.args.name.now))
    ∙ number-outside c.args.least c.args.most _ c.in-Some.number c.in-Some.ensures.value (λ low high. omega arith)

pub returns-then-number-most-clause-usage : goal.returns-then-number-most-clause-usage
returns-then-number-most-clause-usage c =
    λ _. ap (option_and_then (number_in c.args.least c.args.most)) (sym (one_text-rows (found_of c.args.matches.now) c.args.name.now))
    ∙ number-outside c.args.least c.args.most _ c.in-Some.number c.in-Some.ensures.value (λ low high. omega arith)

pub returns-clause-ok : goal.returns-clause-ok
returns-clause-ok c =
    let low : c.args.least ≤ c.in-Some.number = omega arith in
    let high : c.in-Some.number ≤ c.args.most = omega arith in
    ap (option_and_then (number_in c.args.least c.args.most)) (sym (one_text-rows (found_of c.args.matches.now) c.args.name.now))
    ∙ number-some c.args.least c.args.most _ c.in-Some.number c.in-Some.ensures.none c.in-Some.ensures.value low high
