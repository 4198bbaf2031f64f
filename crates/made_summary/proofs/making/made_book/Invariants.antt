use Rattle.std.proofs.Common.{◌≡◌, ◌≤◌, ◌*◌}
use Rattle.cov_book.specs.Stands.{StandsFor}
use Rattle.made_snapshots.specs.Draws.{behind}
use Rattle.made_snapshots.specs.Made.{made}
use Rattle.made_summary.proofs.making.made_book.Given as goal

-- the book stands for the snapshots so far, and the draws go on behind them
abbrev pub invariant-loop-number : goal.invariant-loop-number
invariant-loop-number g l = record {
  state : l.draws ≡ behind (12 * l.number) l.seed;
  stands : StandsFor l.book (made l.seed l.number);
  within : l.number ≤ l.count;
}
