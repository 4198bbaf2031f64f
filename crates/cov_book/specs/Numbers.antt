-- How many things a list of snapshots comes to.
use Rattle.std.specs.Prelude.{ℕ, min, List, length, sum_by}
use Rattle.cov_model.specs.declared.snapshot.Snapshot.{Snapshot}
use Rattle.cov_model.specs.declared.sums.Key.{Key}
use Rattle.cov_model.specs.declared.report.ListForm.TheVariants.{Nested}
use Rattle.cov_model.specs.Forms.{normal_list}
use Rattle.cov_text.specs.Listing.{limit}
use Rattle.cov_model.specs.Sums.{root, total, urls_in_order, keys_in_order}
use Rattle.cov_book.specs.Counts.{capped}
use Rattle.cov_book.specs.Prepared.{told_ranges}
use Rattle.cov_book.specs.declared.sums.Sums.{Sums}
use Rattle.cov_book.specs.declared.numbers.Numbers.{Numbers}

-- how many ranges the normal list of a function has
abbrev pub range_count : List Snapshot → Key → ℕ
range_count snapshots key = length (normal_list key.start key.end (root snapshots key) (total snapshots key))

-- numbers as far as 64 bits go, and the sum of roots as far as 128 bits go
abbrev pub kept : ℕ → ℕ → ℕ → ℕ → Numbers
kept scripts functions ranges roots = record { scripts = min scripts limit; functions = min functions limit; ranges = min ranges limit; roots = capped roots }

-- the urls, the functions, the ranges of their normal lists, and the sum of their root counts
unfoldable pub numbers_of : List Snapshot → Numbers
numbers_of snapshots =
    kept (length (urls_in_order snapshots)) (length (keys_in_order snapshots)) (sum_by (range_count snapshots) (keys_in_order snapshots)) (sum_by (root snapshots) (keys_in_order snapshots))

-- how many ranges of a function are told
abbrev pub ranges_told : Key × Sums → ℕ
ranges_told e = length (told_ranges Nested e)

abbrev pub root_told : Key × Sums → ℕ
root_told e = e.1.root

-- the numbers of urls and of the sums of functions
abbrev pub numbers_told : List (List ℕ) → List (Key × Sums) → Numbers
numbers_told urls entries = kept (length urls) (length entries) (sum_by ranges_told entries) (sum_by root_told entries)
