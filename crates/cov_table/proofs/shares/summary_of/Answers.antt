use Rattle.std.proofs.Common.{arith}
use Rattle.cov_table.proofs.Sums.{ended_within}
use Rattle.cov_table.proofs.shares.summary_of.Goals as goal

pub returns-clause-within : goal.returns-clause-within
returns-clause-within c = ended_within c.loop-file.all c.args.files.now c.loop-file.file-index (omega arith) c.loop-file.invariant
