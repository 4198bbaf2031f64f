-- The first fault ends a reading.
use Rattle.std.specs.Prelude.{ℕ, Option, None, Some, Result, Ok, Err}
use Rattle.vlq_mappings.specs.declared.VlqCause.{VlqCause}
use Rattle.vlq_mappings.specs.declared.VlqFault.{VlqFault}
use Rattle.vlq_mappings.specs.declared.VlqFault.TheVariants.{At}

infixl 10 ◌>>=◌
abbrev pub ◌>>=◌ : {A B : Type 0} → Result A VlqFault → (A → Result B VlqFault) → Result B VlqFault
(Ok x) >>= f = f x
(Err e) >>= f = Err e

-- a fault, by its place and its cause
abbrev pub fault : {A : Type 0} → ℕ → VlqCause → Result A VlqFault
fault place cause = Err (At place cause)

-- what is there, or else a fault
abbrev pub or_fault : {A : Type 0} → ℕ → VlqCause → Option A → Result A VlqFault
or_fault place cause None = fault place cause
or_fault place cause (Some x) = Ok x

-- the same as a word
abbrev pub goes_on : {A B : Type 0} → Result A VlqFault → (A → Result B VlqFault) → Result B VlqFault
goes_on r f = r >>= f
