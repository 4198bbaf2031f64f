-- Why `Runs::add` refuses, and what its helpers answer.
use Rattle.std.specs.Prelude.{◌≡◌, ℕ, ◌+◌, ◌<◌}
use Rattle.cov_text.specs.Listing.{limit}
use Rattle.cov_steps.specs.declared.fault.StepFault.{StepFault}
use Rattle.cov_steps.specs.declared.fault.StepFault.TheVariants.{TooBig, NoMemory}
use Rattle.cov_steps.specs.Runs.{RunList, IsFirstPast}

-- A sum passes the limit, first at this offset; or else memory ran out.
abbrev pub IsPast : RunList → RunList → StepFault → Type 0
IsPast a b (TooBig offset held added) = IsFirstPast a b offset held added
IsPast a b NoMemory = Unit {0}

-- The sum of these two counts at this offset passes the limit.
abbrev pub IsPastAt : ℕ → ℕ → ℕ → StepFault → Type 0
IsPastAt offset held added (TooBig at one other) = (at ≡ offset) × (one ≡ held) × (other ≡ added) × (limit < held + added)
IsPastAt offset held added NoMemory = ⊥
