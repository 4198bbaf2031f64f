use Rattle.std.proofs.Common.{sym, ◌∙◌}
use Rattle.std.specs.Prelude.{None, Some}
use Rattle.cov_book.proofs.Renewing.{new-get, new-none}
use Rattle.cov_book.proofs.Searched.{item-at}
use Rattle.cov_book.proofs.changed.again_at.Goals as goal

pub returns-in_default : goal.returns-in_default
returns-in_default c = sym (new-none c.args.again.now c.args.at (item-at c.args.again.now c.args.at None c.in_default.ensures.lookup))

pub returns : goal.returns
returns c = c.as_ref.ensures.value ∙ sym (new-get c.args.again.now c.args.at c.in-Some.there.now (item-at c.args.again.now c.args.at (Some c.in-Some.there) c.in-Some.ensures.lookup))
