-- Which offsets a list of ranges speaks of.
use Rattle.std.specs.Prelude.{ℕ, Bool, false, List, [], ◌∷◌}
use Rattle.cov_model.specs.declared.report.Range.{Range}
use Rattle.cov_model.specs.Nesting.{has_offset}

-- the root, which is the first range, has the offset
abbrev pub root_has : List Range → ℕ → Bool
root_has [] o = false
root_has (root ∷ rest) o = has_offset o root
