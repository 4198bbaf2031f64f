use Rattle.std.proofs.Common.{◌≡◌}
use Rattle.std.proofs.Common.{ℕ, drop}
use Rattle.std.specs.Prelude.{map}
use Rattle.istanbul_rules.specs.Parts.{greatest}
use Rattle.istanbul_rules.proofs.Greatest.{greatest_with}
use Rattle.istanbul_rules.proofs.counting.greatest_count.Given as goal

-- the greatest so far and of the rest is that of all
abbrev pub invariant-loop-place : goal.invariant-loop-place
invariant-loop-place l =
    (count_of : ℕ → ℕ) → l.counts ≡ map count_of l.offsets → greatest_with l.most (map count_of (drop l.place-index l.places)) ≡ greatest (map count_of l.places)
