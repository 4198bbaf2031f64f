use Rattle.std.proofs.Common.{refl, arith}
use Rattle.lcov_text.specs.Counts.{counts_of_functions}
use Rattle.lcov_text.proofs.Shares.{ended_within}
use Rattle.lcov_text.proofs.counts.functions_share.Goals as goal

pub returns-clause-within : goal.returns-clause-within
returns-clause-within c = ended_within counts_of_functions refl c.loop-function.share c.args.functions.now c.loop-function.function-index (omega arith) c.loop-function.invariant
