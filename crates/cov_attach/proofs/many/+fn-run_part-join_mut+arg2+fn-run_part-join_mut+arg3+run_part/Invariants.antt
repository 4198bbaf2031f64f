use Rattle.std.proofs.Common.{length}
use Rattle.cov_attach.proofs.many.+fn-run_part-join_mut+arg2+fn-run_part-join_mut+arg3+run_part.Given as goal

-- how many links there are
abbrev pub decreases-join_mut+arg2 : goal.decreases-join_mut+arg2
decreases-join_mut+arg2 g l = length l.front.now

abbrev pub decreases-join_mut+arg3 : goal.decreases-join_mut+arg3
decreases-join_mut+arg3 g l = length l.back.now

abbrev pub decreases-run_part : goal.decreases-run_part
decreases-run_part g l = length l.links.now
