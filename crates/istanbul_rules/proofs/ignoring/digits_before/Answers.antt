use Rattle.std.proofs.Common.{◌∙◌, rules, tests}
use Rattle.std.specs.Char.{is_ascii_digit}
use Rattle.std.proofs.lemmas.Iterator.{YieldsList-from_slice}
use Rattle.std.proofs.lemmas.Iterator.Consumers.{YieldsList-at, count_from_yields_List}
use Rattle.std.proofs.lemmas.Iterator.Search.{YieldsList-from_take_while}
use Rattle.std.proofs.lemmas.List.Folds.{length-prefix_len}
use Rattle.istanbul_rules.proofs.Comments.{prefix_within}
use Rattle.istanbul_rules.proofs.ignoring.digits_before.Goals as goal

pub returns-clause-value : goal.returns-clause-value
returns-clause-value c =
    count_from_yields_List c.take_while.result c.count.result c.count.ensures.ran
    (YieldsList-from_take_while _ is_ascii_digit (YieldsList-at c.take_while.ensures.source (YieldsList-from_slice c.args.bytes.now c.iter.ensures.rest))
    c.take_while.ensures.closure c.take_while.ensures.done (λ x b q k. search (rules, tests)))
    ∙ length-prefix_len is_ascii_digit c.args.bytes.now

pub returns-clause-within : goal.returns-clause-within
returns-clause-within c = prefix_within c.args.bytes.now c.count.result (returns-clause-value c)
