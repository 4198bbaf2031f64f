use Rattle.std.proofs.Common.{◌++◌, drop}
use Rattle.istanbul_rules.specs.Painting.{IsSameBetween, IsDecided}
use Rattle.istanbul_rules.proofs.painting.undecided.Given as goal

-- the ranges kept so far, and the rest, may be taken for all
abbrev pub invariant-loop-range : goal.invariant-loop-range
invariant-loop-range l = record {
  same : IsSameBetween l.first l.last (l.count, l.left.items ++ drop l.range-index l.ranges) l.base l.ranges;
  decided : IsDecided l.first l.last l.left.items;
}
