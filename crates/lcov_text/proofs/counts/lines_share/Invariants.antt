use Rattle.std.proofs.Common.{◌≡◌, drop, map}
use Rattle.lcov_text.specs.Counts.{share_of, counts_of_lines}
use Rattle.lcov_text.specs.Counting.{with_counts}
use Rattle.lcov_text.proofs.counts.lines_share.Given as goal

abbrev pub invariant-loop-line : goal.invariant-loop-line
invariant-loop-line l = with_counts l.share (map (λ line. line.count) (drop l.line-index l.lines)) ≡ share_of (counts_of_lines l.lines)
