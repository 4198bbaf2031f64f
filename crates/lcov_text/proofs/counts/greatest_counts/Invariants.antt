use Rattle.std.proofs.Common.{◌≡◌, drop, []}
use Rattle.lcov_text.specs.Counting.{with_statements}
use Rattle.lcov_text.proofs.counts.greatest_counts.Given as goal

abbrev pub invariant-loop-statement : goal.invariant-loop-statement
invariant-loop-statement l = with_statements l.greatest.entries (drop l.statement-index l.statements) ≡ with_statements [] l.statements
