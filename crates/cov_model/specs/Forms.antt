-- The forms in which a file may list the ranges of a function.
use Rattle.std.specs.Prelude.{ℕ, List}
use Rattle.cov_model.specs.declared.report.Range.{Range}
use Rattle.cov_model.specs.declared.report.ListForm.{ListForm}
use Rattle.cov_model.specs.declared.report.ListForm.TheVariants.{Nested, Flat}
use Rattle.cov_model.specs.Nested.{nested}
use Rattle.cov_model.specs.Normal.{flat}

-- the one list of this form for a root, its count, and the counts at its offsets
abbrev pub list_in : ListForm → ℕ → ℕ → ℕ → (ℕ → ℕ) → List Range
list_in Nested = nested
list_in Flat = flat

-- the normal list: here stands which form a normal file has
abbrev pub normal_list : ℕ → ℕ → ℕ → (ℕ → ℕ) → List Range
normal_list = list_in Nested
