-- The functions of one url, and whether two functions have the same sums.
use Rattle.std.specs.Prelude.{ℕ, Bool, ◌&&◌, ◌==◌, List}
use Rattle.std.specs.Cmp.Lexicographic.{pointwise}
use mathlib.Core.Bool.{beq}
use Rattle.cov_model.specs.declared.report.Range.{Range}
use Rattle.cov_model.specs.declared.sums.Key.{Key}
use Rattle.cov_steps.specs.Runs.{RunList}
use Rattle.cov_book.specs.declared.sums.Sums.{Sums}

-- a key by its parts
abbrev pub named : List ℕ → ℕ → ℕ → List ℕ → Key
named url start end name = record { url = url; start = start; end = end; name = name }

-- ---- the same sums

abbrev pub same_range : Range → Range → Bool
same_range a b = (a.start == b.start) && ((a.end == b.end) && (a.count == b.count))

abbrev pub same_runs : RunList → RunList → Bool
same_runs a b = (a.start == b.start) && ((a.end == b.end) && pointwise same_range a.runs b.runs)

-- the flag and the sum of root counts
abbrev pub same_root : Sums → Sums → Bool
same_root a b = beq a.block b.block && (a.root == b.root)

abbrev pub same_sums : Sums → Sums → Bool
same_sums a b = same_root a b && same_runs a.runs b.runs
