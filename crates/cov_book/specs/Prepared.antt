-- Words of private functions: sums with reports added one after the other, and how they are told.
use Rattle.std.specs.Prelude.{◌≡◌, ℕ, ◌+◌, ◌≤◌, ◌<◌, ◌++◌, Bool, ◌||◌, nat_lt, filter, sum_by, length, List, [], ◌∷◌, map, Option, None, Some}
use Rattle.std.specs.List.{AllByRecursion}
use Rattle.std.specs.List.Sorted.{IsStrictlySortedBy}
use Rattle.std.specs.Map.{lookup, keys_of}
use Rattle.std.specs.Option.{option_or}
use Rattle.std.specs.BTreeMap.{insert_entry, is_at}
use Rattle.cov_text.specs.Listing.{same_text}
use Rattle.cov_model.specs.declared.report.FunctionReport.{FunctionReport}
use Rattle.cov_model.specs.declared.snapshot.Entry.{Entry}
use Rattle.cov_model.specs.declared.snapshot.Snapshot.{Snapshot}
use Rattle.cov_model.specs.declared.sums.Key.{Key}
use Rattle.cov_model.specs.declared.sums.At.{At}
use Rattle.cov_model.specs.declared.sums.At.TheVariants.{Root, Offset}
use Rattle.cov_model.specs.declared.report.ListForm.{ListForm}
use Rattle.cov_model.specs.declared.report.Range.{Range}
use Rattle.cov_model.specs.Forms.{list_in}
use Rattle.cov_text.specs.Listing.{limit}
use Rattle.cov_model.specs.Sums.{root_count, key_of, file_order}
use Rattle.cov_steps.specs.Runs.{count_in, counted, sum_of}
use Rattle.cov_book.specs.Counts.{weight}
use Rattle.cov_book.specs.declared.sums.Sums.{Sums}
use Rattle.cov_book.specs.declared.sums.Stop.{Stop}
use Rattle.cov_book.specs.declared.sums.Stop.TheVariants.{Past, NoMemory}
use Rattle.cov_book.specs.Entries.{entries_of}

-- the sums of one report
abbrev pub report_sums : FunctionReport → Sums
report_sums f = record { block = f.block; root = root_count f; runs = counted f.ranges }

-- the sums of two
abbrev pub sum_two : Sums → Sums → Sums
sum_two a b = record { block = a.block || b.block; root = a.root + b.root; runs = sum_of a.runs b.runs }

abbrev pub summed : Option Sums → Sums → Sums
summed None added = added
summed (Some held) added = sum_two held added

-- the sums with those of a report of this key
abbrev pub with_key : List (Key × Sums) → FunctionReport → Option Key → List (Key × Sums)
with_key known f None = known
with_key known f (Some key) = insert_entry file_order known key (summed (lookup (is_at (file_order key)) known) (report_sums f))

abbrev pub with_report : List (Key × Sums) → List ℕ → FunctionReport → List (Key × Sums)
with_report known url f = with_key known f (key_of url f)

abbrev pub with_reports : List (Key × Sums) → List ℕ → List FunctionReport → List (Key × Sums)
with_reports known url [] = known
with_reports known url (f ∷ fs) = with_reports (with_report known url f) url fs

abbrev pub with_entries : List (Key × Sums) → List Entry → List (Key × Sums)
with_entries known [] = known
with_entries known (entry ∷ entries) = with_entries (with_reports known entry.url entry.functions) entries

-- the runs go over the root of the key
abbrev pub IsAligned : Key × Sums → Type 0
IsAligned e = (e.1.runs.start ≡ e.0.start) × (e.1.runs.end ≡ e.0.end)

abbrev pub AreAligned : List (Key × Sums) → Type 0
AreAligned entries = AllByRecursion IsAligned entries

-- none of a function's sums passes the limit
abbrev pub IsWithin : Sums → Type 0
IsWithin sums = (sums.root ≤ limit) × ((o : ℕ) → sums.runs.start ≤ o → o < sums.runs.end → count_in sums.runs.runs o ≤ limit)

abbrev pub AreWithin : List (Key × Sums) → Type 0
AreWithin entries = AllByRecursion (λ e. IsWithin e.1) entries

-- an addition that stopped at a sum past the limit would have made these sums
abbrev pub IfPast : Stop → Sums → Type 0
IfPast Past sums = IsWithin sums → ⊥
IfPast NoMemory sums = Unit {0}

-- how many runs a report has, and how many the sums of a function
abbrev pub report_runs : FunctionReport → ℕ
report_runs f = length (counted f.ranges).runs

abbrev pub runs_held : Option Sums → ℕ
runs_held None = 0
runs_held (Some sums) = length sums.runs.runs

-- the sums in file order, each over the root of its key, and none past the limit
pub record AreKept (entries : List (Key × Sums)) : Type 0 where
  pub sorted : IsStrictlySortedBy file_order (keys_of entries)
  pub aligned : AreAligned entries
  pub within : AreWithin entries

-- the sums of a key: as they were changed, or else as they are held
abbrev pub sums_now : (Key → Option Sums) → List (Key × Sums) → Key → Option Sums
sums_now functions changed key = option_or (lookup (is_at (file_order key)) changed) (functions key)

-- with what was changed, the sums are these
pub record ArePrepared (entries : List (Key × Sums)) (functions : Key → Option Sums) (changed : List (Key × Sums)) : Type 0 where
  pub kept : AreKept entries
  pub now : (key : Key) → lookup (is_at (file_order key)) entries ≡ sums_now functions changed key

-- what is held at a point
abbrev pub held_weight : Option Sums → At → ℕ
held_weight None at = 0
held_weight (Some sums) Root = sums.root
held_weight (Some sums) (Offset o) = count_in sums.runs.runs o

-- with the reports the sum there passes the limit
abbrev pub passes_over : Option Sums → List FunctionReport → At → Bool
passes_over held new at = nat_lt limit (held_weight held at + sum_by (weight at) new)

-- the ranges of a function, as they are told
abbrev pub told_ranges : ListForm → Key × Sums → List Range
told_ranges form e = list_in form e.0.start e.0.end e.1.root (count_in e.1.runs.runs)

-- a function as it is told
abbrev pub told_report : ListForm → Key × Sums → FunctionReport
told_report form e = record { name = e.0.name; block = e.1.block; ranges = told_ranges form e }

abbrev pub told_entry : ListForm → List (Key × Sums) → List ℕ → Entry
told_entry form entries url = record { url = url; functions = map (told_report form) (filter (λ e. same_text e.0.url url) entries) }

-- The sums of a list with those of a snapshot are the sums of both.
abbrev pub SumsGrow : Type 0
SumsGrow = (held : List Snapshot) (snapshot : Snapshot) → with_entries (entries_of held) snapshot ≡ entries_of (held ++ snapshot ∷ [])
