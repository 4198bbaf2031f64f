-- What holds of the definitions.
use Rattle.std.specs.Prelude.{◌≡◌, ◌↔◌, ◌<◌, ℕ, List, ◌∷◌, None, Some, true, length, take, slice_index_or}
use Rattle.cov_model.specs.declared.report.Range.{Range}
use Rattle.cov_model.specs.declared.report.RangeFault.{RangeFault}
use Rattle.cov_model.specs.Nesting.{fault_at, range_fault, is_well_nested}

-- The first fault is absent exactly for well nested lists.
abbrev pub FaultlessWhereNested : Type 0
FaultlessWhereNested = (ranges : List Range) → (range_fault ranges ≡ None) ↔ (is_well_nested ranges ≡ true)

-- The fault is that of the range at a place, against the root and those before it, and no range before has one.
pub record IsLeastFault (root : Range) (ranges : List Range) (fault : RangeFault) : Type 0 where
  pub place : ℕ
  pub within : place < length ranges
  pub here : fault_at root (take place ranges) place (slice_index_or ranges place root) ≡ Some fault
  pub before : (other : ℕ) → other < place → fault_at root (take other ranges) other (slice_index_or ranges other root) ≡ None

-- The first fault is that of the least place that has one.
abbrev pub FirstFaultIsLeast : Type 0
FirstFaultIsLeast = (root : Range) (rest : List Range) (fault : RangeFault) → range_fault (root ∷ rest) ≡ Some fault → IsLeastFault root (root ∷ rest) fault
