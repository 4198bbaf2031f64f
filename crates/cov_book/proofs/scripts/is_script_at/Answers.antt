use Rattle.std.proofs.Common.{sym, ap, ◌∙◌}
use Rattle.std.specs.Prelude.{None, Some}
use Rattle.cov_book.specs.Listed.{is_there}
use Rattle.cov_book.proofs.Searched.{item-at}
use Rattle.cov_book.proofs.scripts.is_script_at.Goals as goal

pub returns-in_default : goal.returns-in_default
returns-in_default c = sym (ap (is_there c.args.url.now) (item-at c.args.scripts.now c.args.at None c.in_default.ensures.lookup))

pub returns : goal.returns
returns c = c.eq.ensures ∙ sym (ap (is_there c.args.url.now) (item-at c.args.scripts.now c.args.at (Some c.in-Some.there) c.in-Some.ensures.lookup))
