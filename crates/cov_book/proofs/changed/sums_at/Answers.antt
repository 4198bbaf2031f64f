use Rattle.std.proofs.Common.{sym, ◌∙◌}
use Rattle.cov_book.proofs.Renewing.{held-there, new-there}
use Rattle.cov_book.proofs.changed.sums_at.Goals as goal

pub returns-in-Some : goal.returns-in-Some
returns-in-Some c = sym (new-there c.args.held.now c.args.again.now c.args.at c.in-Some.sums.now c.requires (sym c.in-Some.ensures))

pub returns-in-None : goal.returns-in-None
returns-in-None c = c.held_at.ensures ∙ sym (held-there c.args.held.now c.args.again.now c.args.at (sym c.in-None.ensures))
