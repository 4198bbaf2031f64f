use Rattle.std.proofs.Common.{ap, ◌∙◌}
use Rattle.std.specs.Prelude.{option_map}
use Rattle.cov_book.specs.declared.sums.Sums.{Sums}
use Rattle.cov_book.specs.Listed.{all_listed}
use Rattle.cov_book.specs.Told.{named}
use Rattle.cov_book.proofs.Placed.{lookup-same}
use Rattle.cov_book.proofs.looking.runs_named.Goals as goal

pub returns-in_default : goal.returns-in_default
returns-in_default c = ap (option_map (λ (s : Sums). s.runs)) (c.in_default.ensures ∙ lookup-same (named c.args.url.now c.args.start c.args.end c.args.name.now) (all_listed c.args.scripts.now))

pub returns : goal.returns
returns c = ap (option_map (λ (s : Sums). s.runs)) (c.in-Some.ensures ∙ lookup-same (named c.args.url.now c.args.start c.args.end c.args.name.now) (all_listed c.args.scripts.now))
