-- What holds of the lists of both forms, and of flat ones.
use Rattle.std.specs.Prelude.{◌≡◌, ◌<◌, ◌≤◌, ℕ, List, None}
use Rattle.cov_model.specs.declared.report.Range.{Range}
use Rattle.cov_model.specs.declared.report.ListForm.{ListForm}
use Rattle.cov_model.specs.Nesting.{range_fault}
use Rattle.cov_model.specs.Normal.{flat, IsFlatOf}
use Rattle.cov_model.specs.Forms.{list_in}

-- Equal counts at each offset give one list.
abbrev pub CountsDetermineIt : Type 0
CountsDetermineIt =
    (form : ListForm) (start end count : ℕ) (f g : ℕ → ℕ)
    → ((o : ℕ) → start ≤ o → o < end → f o ≡ g o) → list_in form start end count f ≡ list_in form start end count g

-- Its ranges nest.
abbrev pub ItIsWellNested : Type 0
ItIsWellNested = (form : ListForm) (start end count : ℕ) (f : ℕ → ℕ) → start ≤ end → range_fault (list_in form start end count f) ≡ None

-- Of a root, its count and the counts at its offsets there is a flat list.
abbrev pub ThereIsOne : Type 0
ThereIsOne = (start end count : ℕ) (f : ℕ → ℕ) → start ≤ end → IsFlatOf start end count f (flat start end count f)

-- There is no other.
abbrev pub ThereIsNoOther : Type 0
ThereIsNoOther = (start end count : ℕ) (f : ℕ → ℕ) (a b : List Range) → IsFlatOf start end count f a → IsFlatOf start end count f b → a ≡ b
