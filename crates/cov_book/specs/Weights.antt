-- Words of private functions: the reports of a snapshot, in whatever scripts and order they stand.
use Rattle.std.specs.Prelude.{◌≡◌, ℕ, Bool, List, map, sum_by}
use Rattle.std.specs.List.{list_any}
use Rattle.cov_model.specs.declared.report.FunctionReport.{FunctionReport}
use Rattle.cov_model.specs.declared.snapshot.Entry.{Entry}
use Rattle.cov_model.specs.Nesting.{AreNested}
use Rattle.cov_book.specs.Urls.{urls_of}
use Rattle.cov_book.specs.declared.cutting.Part.{Part}

-- a part as a script of its own
abbrev pub entry_of : Part → Entry
entry_of part = record { url = part.url.now; functions = part.reports.now }

abbrev pub entries_in : List Part → List Entry
entries_in parts = map entry_of parts

-- the sum over all reports, each with the url of its script
abbrev pub weighed : (List ℕ → FunctionReport → ℕ) → List Entry → ℕ
weighed w entries = sum_by (λ entry. sum_by (w entry.url) entry.functions) entries

-- the same urls, and of each url the same reports as often
pub record AreAlike (one other : List Entry) : Type 0 where
  pub urls : (p : List ℕ → Bool) → list_any p (urls_of one) ≡ list_any p (urls_of other)
  pub weights : (w : List ℕ → FunctionReport → ℕ) → weighed w one ≡ weighed w other
  pub nested : AreNested one → AreNested other
