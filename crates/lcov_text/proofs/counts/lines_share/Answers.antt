use Rattle.std.proofs.Common.{refl, arith}
use Rattle.lcov_text.specs.Counts.{counts_of_lines}
use Rattle.lcov_text.proofs.Shares.{ended_within}
use Rattle.lcov_text.proofs.counts.lines_share.Goals as goal

pub returns-clause-within : goal.returns-clause-within
returns-clause-within c = ended_within counts_of_lines refl c.loop-line.share c.args.lines.now c.loop-line.line-index (omega arith) c.loop-line.invariant
