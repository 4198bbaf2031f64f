use Rattle.std.proofs.Common.{◌≡◌, ◌+◌, ◌≤◌, drop}
use Rattle.std.specs.Prelude.{min, sum_by, ◌^◌, ◌-◌}
use Rattle.cov_text.specs.Listing.{limit}
use Rattle.cov_book.specs.Counts.{capped}
use Rattle.cov_book.specs.Listed.{bare}
use Rattle.cov_book.specs.Numbers.{ranges_told, root_told}
use Rattle.cov_book.proofs.numbers.with_functions.Given as goal

-- what is counted, with what is left, is what all come to
abbrev pub invariant-loop-function : goal.invariant-loop-function
invariant-loop-function l = record {
  ranges : min (l.ranges + sum_by ranges_told (bare (drop l.function-index l.functions))) limit ≡ min (l.initial.ranges + sum_by ranges_told (bare l.functions)) limit;
  roots : capped (l.roots + sum_by root_told (bare (drop l.function-index l.functions))) ≡ capped (l.initial.roots + sum_by root_told (bare l.functions));
  few : l.ranges ≤ limit;
  small : l.roots ≤ 2 ^ 128 - 1;
}
