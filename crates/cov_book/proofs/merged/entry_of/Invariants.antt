use Rattle.std.proofs.Common.{◌≡◌, ◌++◌, map, drop}
use Rattle.cov_book.specs.declared.scripts.Function.{Function}
use Rattle.cov_book.specs.Listed.{own}
use Rattle.cov_book.specs.Prepared.{told_report}
use Rattle.cov_book.proofs.merged.entry_of.Given as goal

-- what is told, with what is left, is all
abbrev pub invariant-loop-function : goal.invariant-loop-function
invariant-loop-function l =
    l.functions ++ map (λ (f : Function). told_report l.form (own l.script.url f)) (drop l.function-index l.function-items) ≡ map (λ (f : Function). told_report l.form (own l.script.url f)) l.function-items
