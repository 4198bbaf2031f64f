-- Words of private functions: how many runs were looked at.
use Rattle.std.specs.Prelude.{ℕ, List, sum_by, Option, None, Some, if◌then◌else◌}
use Rattle.std.specs.Map.{lookup}
use Rattle.std.specs.BTreeMap.{is_at}
use Rattle.cov_model.specs.declared.report.FunctionReport.{FunctionReport}
use Rattle.cov_model.specs.declared.snapshot.Entry.{Entry}
use Rattle.cov_model.specs.declared.sums.Key.{Key}
use Rattle.cov_model.specs.Sums.{is_of, key_of, file_order}
use Rattle.cov_book.specs.declared.sums.Sums.{Sums}
use Rattle.cov_book.specs.Prepared.{report_runs, runs_held}

-- the runs of a report of a key
abbrev pub own_runs : Key → List ℕ → FunctionReport → ℕ
own_runs key url f = if is_of key url f then report_runs f else 0

-- the runs that are known of a function
abbrev pub runs_at : List (Key × Sums) → Key → ℕ
runs_at known key = runs_held (lookup (is_at (file_order key)) known)

-- what may be looked at for a report, where so much may be for one of its function
abbrev pub for_key : (Key → ℕ) → Option Key → ℕ
for_key bound None = 0
for_key bound (Some key) = bound key

abbrev pub for_report : (Key → ℕ) → List ℕ → FunctionReport → ℕ
for_report bound url f = for_key bound (key_of url f)

abbrev pub for_reports : (Key → ℕ) → List ℕ → List FunctionReport → ℕ
for_reports bound url fs = sum_by (for_report bound url) fs

abbrev pub for_entries : (Key → ℕ) → List Entry → ℕ
for_entries bound entries = sum_by (λ entry. for_reports bound entry.url entry.functions) entries

-- the runs of the reports of a key
abbrev pub own_all : Key → List Entry → ℕ
own_all key entries = sum_by (λ entry. sum_by (own_runs key entry.url) entry.functions) entries
