use Rattle.std.proofs.Common.{sym, ◌∙◌, refl, arith}
use Rattle.lcov_text.specs.Counts.{counts_of_branches}
use Rattle.lcov_text.proofs.Shares.{ended_within, branch_more}
use Rattle.lcov_text.proofs.counts.branches_share.Goals as goal

pub loop-branch-preserved : goal.loop-branch-preserved
loop-branch-preserved c =
    let e = c.add_all.ensures in
    sym (branch_more c.loop-branch.share c.add_all.new.self c.args.branches.now c.loop-branch.branch-index c.branch-item.result c.loop-branch-test.true c.branch-item.is (cc)) ∙ c.loop-branch.invariant

pub returns-clause-within : goal.returns-clause-within
returns-clause-within c = ended_within counts_of_branches refl c.loop-branch.share c.args.branches.now c.loop-branch.branch-index (omega arith) c.loop-branch.invariant
