use Rattle.std.proofs.Common.{◌≡◌, ◌++◌, map, drop}
use Rattle.cov_book.specs.Listed.{told_script}
use Rattle.cov_book.proofs.merged.scripts_of.Given as goal

-- what is told, with what is left, is all
abbrev pub invariant-loop-script : goal.invariant-loop-script
invariant-loop-script l = l.entries ++ map (told_script l.form) (drop l.script-index l.scripts) ≡ map (told_script l.form) l.scripts
