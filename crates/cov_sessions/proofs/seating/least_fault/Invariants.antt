use Rattle.std.proofs.Common.{◌≡◌}
use Rattle.std.specs.Prelude.{drop}
use Rattle.cov_sessions.specs.Seating.{outcomes_in}
use Rattle.cov_sessions.specs.Sessions.{least_fault}
use Rattle.cov_sessions.proofs.seating.least_fault.Given as goal

-- no session so far has a fault
abbrev pub invariant-loop-session : goal.invariant-loop-session
invariant-loop-session g l = least_fault (outcomes_in (drop l.session-index l.fn.all)) ≡ least_fault (outcomes_in l.fn.all)
