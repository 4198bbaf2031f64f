use Rattle.std.proofs.Common.{◌≡◌}
use Rattle.std.proofs.Common.{◌++◌, drop}
use Rattle.std.specs.Prelude.{map}
use Rattle.istanbul_rules.proofs.painting.repeat.Given as goal

abbrev pub invariant-loop-stretch : goal.invariant-loop-stretch
invariant-loop-stretch l = l.counts.items ++ map (λ _. l.count) (drop l._stretch-index l.stretches) ≡ l.fn.counts.items ++ map (λ _. l.count) l.stretches
