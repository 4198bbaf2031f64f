-- What `make` owes. It reads nothing: whatever the store, it owes its line, or wants memory.
use Rattle.std.specs.Prelude.{◌≡◌, ◌⊎◌, ℕ}
use Rattle.cov_io.specs.Causes.{Rose}
use Rattle.made_summary.specs.Line.{made_line}
use Rattle.cov_commands.specs.declared.ended.Ended.TheVariants.{NoMemory}
use Rattle.cov_commands.specs.Due.{accepted_due}
use Rattle.cov_commands.specs.Owed.{Owed, Duty, early}
use Rattle.cov_commands.specs.Stores.{StoreAt}

abbrev pub make_due : ℕ → ℕ → Owed
make_due seed count = accepted_due (made_line seed count)

-- The store is as before: it was not called.
pub record OwesMade {S : Type 0} (seed count : ℕ) (before now : StoreAt S) (owed : Owed) : Type 0 where
  pub either : (owed ≡ make_due seed count) ⊎ (owed ≡ early NoMemory)
  pub uncalled : now ≡ before

abbrev pub make_duty : {S : Type 0} → ℕ → ℕ → Duty (StoreAt S)
make_duty seed count = record {
  owes = λ before now owed. OwesMade seed count before now owed;
  missing = λ before. ⊥;
  risen = λ before now. Rose before.faults now.faults;
}
