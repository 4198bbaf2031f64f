use Rattle.std.proofs.Common.{◌≡◌, ◌≤◌, ◌+◌, ℕ, List, drop}
use Rattle.std.specs.Prelude.{Option, None, sum_by}
use Rattle.cov_model.specs.declared.sums.Key.{Key}
use Rattle.cov_book.specs.declared.sums.Sums.{Sums}
use Rattle.cov_book.specs.Spent.{for_reports, own_runs, runs_at}
use Rattle.cov_book.specs.Renewed.{made}
use Rattle.cov_book.specs.Prepared.{with_reports}
use Rattle.cov_book.specs.Least.{IsLeastSoFar}
use Rattle.cov_book.specs.Listed.{AreInOrder, CanGoOnIn, Knows, own_list}
use Rattle.cov_book.proofs.adding.add_reports.Given as goal

-- what is left makes of the sums so far what all make of those at first
abbrev pub invariant-loop-report : goal.invariant-loop-report
invariant-loop-report g l = record {
  order : AreInOrder l.changes.fresh.items;
  so_far : CanGoOnIn l.url l.held (made l.held l.changes) l.past;
  sums : (all : List (Key × Sums)) (functions : Key → Option Sums) → Knows l.url l.held functions → IsLeastSoFar all functions (own_list l.url (made l.held l.initial.changes)) l.fn.before
      → (now : List (Key × Sums)) × IsLeastSoFar now functions (own_list l.url (made l.held l.changes)) l.past
      × (with_reports now l.url (drop l.report-index l.reports) ≡ with_reports all l.url l.reports)
      × (l.past ≡ None → (key : Key) → runs_at now key + sum_by (own_runs key l.url) (drop l.report-index l.reports) ≤ runs_at all key + sum_by (own_runs key l.url) l.reports);
  cost : l.past ≡ None → (all : List (Key × Sums)) (functions : Key → Option Sums) (bound : Key → ℕ) → Knows l.url l.held functions
      → IsLeastSoFar all functions (own_list l.url (made l.held l.initial.changes)) l.fn.before
      → ((key : Key) → runs_at all key + sum_by (own_runs key l.url) l.reports ≤ bound key)
      → l.steps + for_reports bound l.url (drop l.report-index l.reports) ≤ l.initial.steps + for_reports bound l.url l.reports;
  stays : l.past ≡ None → l.fn.before ≡ None;
  later : l.initial.steps ≤ l.steps;
}
