use Rattle.std.proofs.Common.{◌≡◌, ◌++◌, drop, map}
use Rattle.coverage_text.proofs.order.lent.Given as goal

-- those that are lent, and the rest, are all
abbrev pub invariant-loop-item : goal.invariant-loop-item
invariant-loop-item g l = map (λ k. k.item.now) l.lent.items ++ drop l.item-index l.items ≡ l.items
