use Rattle.std.proofs.Common.{take}
use Rattle.cov_report.specs.First.{ArePlaces}
use Rattle.cov_report.proofs.first.first_places.Given as goal

-- the places of the entries so far
abbrev pub invariant-loop-place : goal.invariant-loop-place
invariant-loop-place l = ArePlaces (take l.place l.entries) l.places
