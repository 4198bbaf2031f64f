use Rattle.std.proofs.Common.{◌≡◌, ◌+◌, ◌≤◌, drop, length}
use Rattle.std.specs.Prelude.{min, sum_by, ◌^◌, ◌-◌}
use Rattle.cov_text.specs.Listing.{limit}
use Rattle.cov_book.specs.Counts.{capped}
use Rattle.cov_book.specs.Listed.{all_listed}
use Rattle.cov_book.specs.Numbers.{ranges_told, root_told}
use Rattle.cov_book.proofs.numbers.numbers_in.Given as goal

-- what is counted, with what is left, is what all come to
abbrev pub invariant-loop-script : goal.invariant-loop-script
invariant-loop-script l = record {
  scripts : l.numbers.scripts ≡ min (length l.scripts) limit;
  functions : min (l.numbers.functions + length (all_listed (drop l.script-index l.scripts))) limit ≡ min (length (all_listed l.scripts)) limit;
  ranges : min (l.numbers.ranges + sum_by ranges_told (all_listed (drop l.script-index l.scripts))) limit ≡ min (sum_by ranges_told (all_listed l.scripts)) limit;
  roots : capped (l.numbers.roots + sum_by root_told (all_listed (drop l.script-index l.scripts))) ≡ capped (sum_by root_told (all_listed l.scripts));
  few : l.numbers.functions ≤ limit;
  many : l.numbers.ranges ≤ limit;
  small : l.numbers.roots ≤ 2 ^ 128 - 1;
}
