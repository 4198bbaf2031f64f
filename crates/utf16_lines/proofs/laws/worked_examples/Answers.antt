use Rattle.std.proofs.Common.{refl}
use Rattle.std.specs.Str.{chars}
use Rattle.utf16_lines.specs.Lines.{units, lines}
use Rattle.utf16_lines.proofs.laws.worked_examples.Goals as goal

pub returns : goal.returns
unfolding units lines chars
returns c = (refl, refl, refl, refl, refl, refl, refl, refl, refl)
