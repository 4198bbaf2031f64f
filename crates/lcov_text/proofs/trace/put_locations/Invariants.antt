use Rattle.std.proofs.Common.{◌≡◌, drop, ◌++◌, map}
use Rattle.std.specs.List.{enumerate_from}
use Rattle.lcov_text.specs.Lcov.{location_line, ended_lines}
use Rattle.lcov_text.proofs.trace.put_locations.Given as goal

abbrev pub invariant-loop-location : goal.invariant-loop-location
invariant-loop-location l = l.text.items ++ ended_lines (map (location_line l.line l.place) (enumerate_from l.location (drop l.location l.counts))) ≡ l.initial.text.items ++ ended_lines (map (location_line l.line l.place) (enumerate_from 0 l.counts))
