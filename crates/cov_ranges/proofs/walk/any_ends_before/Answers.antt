use Rattle.std.proofs.Common.{nat_lt, sym, ap, ◌∙◌}
use Rattle.cov_ranges.proofs.Stack.{any-last}
use Rattle.cov_ranges.proofs.walk.any_ends_before.Goals as goal

pub returns-in-Some : goal.returns-in-Some
returns-in-Some c = ap (λ n. nat_lt n c.args.offset) c.from.ensures ∙ any-last c.args.offset c.args.stack.now c.in-Some.last.now c.requires (sym c.in-Some.ensures.value)
