use Rattle.utf16_lines.proofs.ComingBack.{offset_comes_back, spot_comes_back}
use Rattle.utf16_lines.proofs.laws.coming_back.Goals as goal

pub returns-clause-offset : goal.returns-clause-offset
returns-clause-offset c = offset_comes_back

pub returns-clause-spot : goal.returns-clause-spot
returns-clause-spot c = spot_comes_back
