use Rattle.cov_normal.proofs.Counting.{nested-faultless}
use Rattle.cov_normal.proofs.nested_list.runs_of.Goals as goal

pub counts_of-requires : goal.counts_of-requires
counts_of-requires c = nested-faultless c.args.ranges.now c.requires
