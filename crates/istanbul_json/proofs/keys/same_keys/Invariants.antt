use Rattle.std.proofs.Common.{◌≡◌, drop}
use Rattle.istanbul_json.specs.Answers.{texted}
use Rattle.istanbul_json.specs.Coverage.{same_keys}
use Rattle.istanbul_json.proofs.keys.same_keys.Given as goal

-- the keys that are left are the same where all are
abbrev pub invariant-loop-x : goal.invariant-loop-x
invariant-loop-x g l = same_keys (texted (drop l.x-index l.xs)) (texted l.left) ≡ same_keys (texted l.xs) (texted l.ys)
