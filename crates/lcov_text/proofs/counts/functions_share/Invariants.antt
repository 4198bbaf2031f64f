use Rattle.std.proofs.Common.{◌≡◌, drop, map}
use Rattle.lcov_text.specs.Counts.{share_of, counts_of_functions}
use Rattle.lcov_text.specs.Counting.{with_counts}
use Rattle.lcov_text.proofs.counts.functions_share.Given as goal

abbrev pub invariant-loop-function : goal.invariant-loop-function
invariant-loop-function l = with_counts l.share (map (λ f. f.count) (drop l.function-index l.functions)) ≡ share_of (counts_of_functions l.functions)
