use Rattle.std.proofs.Common.{◌≡◌, drop}
use Rattle.std.specs.List.{flat_map}
use Rattle.lcov_text.specs.Counts.{share_of, counts_of_branches}
use Rattle.lcov_text.specs.Counting.{with_counts}
use Rattle.lcov_text.proofs.counts.branches_share.Given as goal

abbrev pub invariant-loop-branch : goal.invariant-loop-branch
invariant-loop-branch l = with_counts l.share (flat_map (λ b. b.counts) (drop l.branch-index l.branches)) ≡ share_of (counts_of_branches l.branches)
