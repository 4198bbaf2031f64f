-- Whether snapshots that are added in order come to sums within the limit.
use Rattle.std.specs.Prelude.{◌≡◌, List, [], ◌∷◌, ◌++◌, Option, None, Some}
use Rattle.cov_model.specs.declared.snapshot.Snapshot.{Snapshot}
use Rattle.cov_model.specs.declared.sums.SumFault.{SumFault}
use Rattle.cov_model.specs.Nesting.{or_else}
use Rattle.cov_model.specs.Sums.{sum_fault}
use Rattle.cov_session.specs.declared.target.TargetFault.{TargetFault}
use Rattle.cov_session.specs.declared.target.TargetFault.TheVariants.{Sum, NoMemory}

-- the first fault of these, added in order to those that are held
abbrev pub fault_over : List Snapshot → List Snapshot → Option SumFault
fault_over held [] = None
fault_over held (s ∷ ss) = or_else (sum_fault held s) (fault_over (held ++ s ∷ []) ss)

-- the first fault of a tape's snapshots, added in order to an empty book
abbrev pub tape_fault : List Snapshot → Option SumFault
tape_fault tape = fault_over [] tape

-- this fault, unless memory ran out
abbrev pub TellsFault : Option SumFault → TargetFault → Type 0
TellsFault fault (Sum found) = fault ≡ Some found
TellsFault fault NoMemory = Unit {0}
