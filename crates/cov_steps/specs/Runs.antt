-- Runs of one count over a root, and their sum.
use Rattle.std.specs.Prelude.{◌≡◌, ℕ, ◌+◌, ◌<◌, ◌≤◌, List, [], ◌∷◌, if◌then◌else◌}
use Rattle.cov_model.specs.declared.report.Range.{Range}
use Rattle.cov_model.specs.Nesting.{has_offset, inner_count}
use Rattle.cov_model.specs.Normal.{maximal_runs}
use Rattle.cov_text.specs.Listing.{limit}

-- a start, an end, and the runs between them
pub record RunList : Type 0 where
  pub start : ℕ
  pub end : ℕ
  pub runs : List Range

-- the first of the runs has another count than this
abbrev pub BeginsOtherwise : ℕ → List Range → Type 0
BeginsOtherwise count [] = Unit {0}
BeginsOtherwise count (run ∷ runs) = ¬ (run.count ≡ count)

-- The runs lie end to end from start to end, none is empty, and no two that touch have one count.
abbrev pub AreRuns : ℕ → ℕ → List Range → Type 0
AreRuns start end [] = start ≡ end
AreRuns start end (run ∷ runs) = (run.start ≡ start) × (start < run.end) × BeginsOtherwise run.count runs × AreRuns run.end end runs

-- the count of the run that has the offset
abbrev pub count_in : List Range → ℕ → ℕ
count_in [] o = 0
count_in (run ∷ runs) o = if has_offset o run then run.count else count_in runs o

-- the runs of a report: at each offset of the root the innermost count
abbrev pub counted : List Range → RunList
counted [] = record { start = 0; end = 0; runs = [] }
counted (root ∷ rest) = record { start = root.start; end = root.end; runs = maximal_runs root.start root.end (inner_count (root ∷ rest)) }

-- the sum of the two counts at an offset
abbrev pub sum_at : RunList → RunList → ℕ → ℕ
sum_at a b o = count_in a.runs o + count_in b.runs o

-- the runs of the sums
abbrev pub sum_of : RunList → RunList → RunList
sum_of a b = record { start = a.start; end = a.end; runs = maximal_runs a.start a.end (sum_at a b) }

-- no sum passes the limit
abbrev pub Fits : RunList → RunList → Type 0
Fits a b = (o : ℕ) → a.start ≤ o → o < a.end → sum_at a b o ≤ limit

-- This is the least offset whose sum passes the limit, with the counts that are held and added there.
pub record IsFirstPast (a b : RunList) (offset held added : ℕ) : Type 0 where
  pub from : a.start ≤ offset
  pub to : offset < a.end
  pub below : (o : ℕ) → a.start ≤ o → o < offset → sum_at a b o ≤ limit
  pub past : limit < sum_at a b offset
  pub holds : held ≡ count_in a.runs offset
  pub adds : added ≡ count_in b.runs offset
