-- What holds of runs and their sums.
use Rattle.std.specs.Prelude.{◌≡◌, ◌↔◌, ◌+◌, ◌≤◌, ◌<◌, ℕ, List, None, Some}
use Rattle.cov_model.specs.declared.report.Range.{Range}
use Rattle.cov_model.specs.Nesting.{range_fault, inner}
use Rattle.cov_steps.specs.Runs.{RunList, AreRuns, count_in, counted, sum_of, Fits}

-- The runs of well nested ranges are runs over the root, and have the innermost count at each of its offsets.
abbrev pub RunsCount : Type 0
RunsCount =
    (ranges : List Range) → range_fault ranges ≡ None
    → AreRuns (counted ranges).start (counted ranges).end (counted ranges).runs
    × ((o : ℕ) → (counted ranges).start ≤ o → o < (counted ranges).end → inner ranges o ≡ Some (count_in (counted ranges).runs o))

-- Two lists of runs over one root with equal counts at each offset are one.
abbrev pub CountsDetermineRuns : Type 0
CountsDetermineRuns =
    (start end : ℕ) (a b : List Range) → AreRuns start end a → AreRuns start end b
    → ((o : ℕ) → start ≤ o → o < end → count_in a o ≡ count_in b o) → a ≡ b

-- The sum of two lists of runs over one root is a list of runs over it, and has the sum of their counts at each offset.
abbrev pub SumsCount : Type 0
SumsCount =
    (a b : RunList) → a.start ≤ a.end
    → AreRuns a.start a.end (sum_of a b).runs
    × ((o : ℕ) → a.start ≤ o → o < a.end → count_in (sum_of a b).runs o ≡ count_in a.runs o + count_in b.runs o)

-- Which of two lists over one root is added to which makes no difference.
abbrev pub SumsCommute : Type 0
SumsCommute = (a b : RunList) → a.start ≡ b.start → a.end ≡ b.end → (sum_of a b ≡ sum_of b a) × (Fits a b ↔ Fits b a)

-- Nor does it which two of three are added first: the sum is one, and it fits in one order where it does in the other.
abbrev pub SumsAssociate : Type 0
SumsAssociate =
    (a b c : RunList) → a.start ≡ b.start → b.start ≡ c.start → a.end ≡ b.end → b.end ≡ c.end
    → (sum_of (sum_of a b) c ≡ sum_of a (sum_of b c)) × ((Fits a b × Fits (sum_of a b) c) ↔ (Fits b c × Fits a (sum_of b c)))
