use Rattle.std.proofs.Common.{◌≡◌, drop}
use Rattle.istanbul_json.specs.Answers.{texted}
use Rattle.istanbul_json.specs.Coverage.{as_many_counts}
use Rattle.istanbul_json.proofs.keys.as_many_counts.Given as goal

-- the numbers that are left are the same where all are
abbrev pub invariant-loop-branch : goal.invariant-loop-branch
invariant-loop-branch l = as_many_counts (texted (drop l.branch-index l.branches)) (texted l.left) ≡ as_many_counts (texted l.branches) (texted l.counts)
