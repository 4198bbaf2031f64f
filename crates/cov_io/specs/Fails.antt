-- Calls that fail as a test asks.
use Rattle.std.specs.Prelude.{ℕ, List}
use Rattle.cov_io.specs.declared.failing.Failing.{Failing}

-- no call yet, of which these will fail
abbrev pub failing_at : List ℕ → Failing
failing_at numbers = record { numbers = numbers; calls = 0; faults = 0 }
