-- What the store's count of faults says of a command that came to its end.
use Rattle.std.specs.Prelude.{◌≡◌, ◌++◌, ℕ, List, Option, None, IsTrue, IsFalse}
use Rattle.cov_io.specs.Causes.{Rose}
use Rattle.cov_io.specs.Told.{Files, WhereTold}
use Rattle.cov_report.specs.declared.answer.Skip.{Skip}
use Rattle.cov_report.specs.Skips.{has_absent}
use Rattle.cov_report.specs.Texts.{skip_lines}
use Rattle.cov_commands.specs.Due.{report_in}

-- The lines end with those of what a report leaves out, of which the count tells the absent: it stays where none is, and rose
-- where one is and the store tells nothing.
pub record CountsSkips (folder : List ℕ) (told : Option Files) (before now : ℕ) (written : List ℕ) : Type 0 where
  pub refused : List ℕ
  pub skips : List Skip
  pub lines : written ≡ refused ++ skip_lines skips
  pub given : WhereTold told (λ files. skips ≡ (report_in folder files).skips)
  pub kept : IsFalse (has_absent skips) → now ≡ before
  pub untold : told ≡ None → IsTrue (has_absent skips) → Rose before now
