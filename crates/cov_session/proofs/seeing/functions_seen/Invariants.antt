use Rattle.std.proofs.Common.{◌≡◌, ◌++◌, map, drop}
use Rattle.cov_session.specs.View.{seen}
use Rattle.cov_session.proofs.seeing.functions_seen.Given as goal

abbrev pub invariant-loop-report : goal.invariant-loop-report
invariant-loop-report l = l.functions ++ map (seen l.flags) (drop l.report-index l.reports) ≡ map (seen l.flags) l.reports
