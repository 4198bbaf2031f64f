use Rattle.std.proofs.Common.{◌≡◌, ◌++◌, map, drop}
use Rattle.cov_session.specs.View.{seen_entry}
use Rattle.cov_session.proofs.seeing.viewed.Given as goal

abbrev pub invariant-loop-entry : goal.invariant-loop-entry
invariant-loop-entry l = l.entries ++ map (seen_entry l.flags) (drop l.entry-index l.scripts) ≡ map (seen_entry l.flags) l.scripts
