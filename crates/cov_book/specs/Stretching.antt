-- Words of private functions: stretches of offsets with one sum each.
use Rattle.std.specs.Prelude.{◌≡◌, ℕ, ◌<◌, ◌≤◌, nat_lt, List, [], ◌∷◌, Option, None, Some, if◌then◌else◌}
use Rattle.std.specs.List.{AllByRecursion}
use Rattle.cov_model.specs.declared.report.FunctionReport.{FunctionReport}
use Rattle.cov_steps.specs.Runs.{counted}
use Rattle.cov_book.specs.Counts.{capped}
use Rattle.cov_book.specs.declared.sums.Sums.{Sums}
use Rattle.cov_book.specs.declared.stretches.Stretch.{Stretch}

-- each stretch goes on where the one before it ends, and all of them from an offset up to an end
abbrev pub IsCover : ℕ → ℕ → List Stretch → Type 0
IsCover from end [] = end ≤ from
IsCover from end (s ∷ rest) = (from < s.end) × (s.end ≤ end) × IsCover s.end end rest

-- the sum at an offset
abbrev pub sum_in : List Stretch → ℕ → ℕ
sum_in [] o = 0
sum_in (s ∷ rest) o = if nat_lt o s.end then s.sum else sum_in rest o

-- the stretches tell these sums, as far as 128 bits go
pub record TellsSums (start end : ℕ) (f : ℕ → ℕ) (stretches : List Stretch) : Type 0 where
  pub covers : IsCover start end stretches
  pub sums : (o : ℕ) → start ≤ o → o < end → sum_in stretches o ≡ capped (f o)

-- each report's root goes from this start up to this end
abbrev pub AreRooted : ℕ → ℕ → List FunctionReport → Type 0
AreRooted start end reports = AllByRecursion (λ f. ((counted f.ranges).start ≡ start) × ((counted f.ranges).end ≡ end)) reports

-- what is held goes over this root
abbrev pub IfRooted : ℕ → ℕ → Option Sums → Type 0
IfRooted start end None = Unit {0}
IfRooted start end (Some sums) = (sums.runs.start ≡ start) × (sums.runs.end ≡ end)
