use Rattle.std.proofs.Common.{◌≡◌, drop}
use Rattle.lcov_text.specs.Counting.{with_counts}
use Rattle.lcov_text.proofs.counts.Share.add_all.Given as goal

abbrev pub invariant-loop-count : goal.invariant-loop-count
invariant-loop-count l = with_counts l.self (drop l.count-index l.counts) ≡ with_counts l.fn.self l.counts
