use Rattle.std.proofs.Common.{◌≡◌, ℕ, ◌<◌, length, get_or}
use Rattle.istanbul_rules.specs.declared.part.Part.{Part}
use Rattle.report_tests.proofs.rules.files.covered.Given as goal

-- the parts so far have one place per line
abbrev pub invariant-loop-part : goal.invariant-loop-part
invariant-loop-part g l = (k : ℕ) (d : Part) → k < l.part-index → length (get_or l.parts k d).lines ≡ l.lines
