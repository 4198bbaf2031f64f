use Rattle.std.proofs.Common.{◌≡◌}
use Rattle.std.proofs.Common.{suc, ◌≤◌, ◌^◌, drop}
use Rattle.std.specs.Prelude.{fold, max}
use Rattle.istanbul_rules.specs.Ignored.{nexts}
use Rattle.istanbul_rules.specs.Walk.{covered}
use Rattle.istanbul_rules.proofs.ignoring.lines_covered.Given as goal

abbrev pub invariant-loop-at : goal.invariant-loop-at
invariant-loop-at l = record {
  value : fold (λ a n. max a (suc n)) l.most (nexts (drop l.at l.line)) ≡ covered l.line;
  bound : l.most ≤ 2 ^ 32;
}
