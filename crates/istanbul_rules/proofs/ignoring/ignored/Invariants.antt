use Rattle.std.proofs.Common.{◌≡◌}
use Rattle.std.proofs.Common.{length}
use Rattle.std.specs.Prelude.{map}
use Rattle.istanbul_rules.specs.Ignored.{marks}
use Rattle.istanbul_rules.specs.Walk as walk
use Rattle.istanbul_rules.proofs.ignoring.ignored.Given as goal

-- what is known behind the lines so far
abbrev pub invariant-loop-line : goal.invariant-loop-line
invariant-loop-line l = record {
  off : l.off ≡ marks (map (λ line. line.now) l.yielded);
  is_open : l.is_open ≡ walk.is_open (map (λ line. line.now) l.yielded);
  reached : walk.Reaches (map (λ line. line.now) l.yielded) l.reached;
  at : l.at ≡ length l.yielded;
}
