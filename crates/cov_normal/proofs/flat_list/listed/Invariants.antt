use Rattle.std.proofs.Common.{◌≡◌, ◌∷◌, take}
use Rattle.cov_normal.specs.Parts.{told}
use Rattle.cov_normal.proofs.flat_list.listed.Given as goal

-- the root and what is told of the runs so far
abbrev pub invariant-loop-i : goal.invariant-loop-i
invariant-loop-i g l = l.ranges ≡ l.root ∷ told l.root (take l.i l.runs.runs)
