-- What a book holds: the urls and the sums of the functions of a list of snapshots.
use Rattle.std.specs.Prelude.{◌≡◌, ℕ, true, List, map}
use Rattle.std.specs.List.{AllByRecursion}
use Rattle.cov_text.specs.Listing.{offsets}
use Rattle.cov_model.specs.declared.snapshot.Snapshot.{Snapshot}
use Rattle.cov_model.specs.declared.sums.Key.{Key}
use Rattle.cov_model.specs.Nesting.{AreNested}
use Rattle.cov_model.specs.Normal.{maximal_runs}
use Rattle.cov_model.specs.Sums.{fits, urls_in_order, root, total, flag, keys_in_order}
use Rattle.cov_model.specs.Held.{FunctionSums}
use Rattle.cov_steps.specs.Runs.{count_in}
use Rattle.cov_book.specs.declared.sums.Sums.{Sums}

-- the sums of a list of snapshots
abbrev pub sums_at : List Snapshot → Key → Sums
sums_at held key = record {
  block = flag held key;
  root = root held key;
  runs = record { start = key.start; end = key.end; runs = maximal_runs key.start key.end (total held key) };
}

abbrev pub key_sums : List Snapshot → Key → Key × Sums
key_sums held key = (key, sums_at held key)

unfoldable pub entries_of : List Snapshot → List (Key × Sums)
entries_of held = map (key_sums held) (keys_in_order held)

-- a function's sums, with its count at each offset
abbrev pub spread : Key × Sums → FunctionSums
spread e = record { key = e.0; block = e.1.block; root = e.1.root; counts = map (count_in e.1.runs.runs) (offsets e.0.start e.0.end) }

-- these are the urls and the sums of some list of snapshots that fits
pub record IsBook (urls : List (List ℕ)) (entries : List (Key × Sums)) : Type 0 where
  pub held : List Snapshot
  pub fit : fits held ≡ true
  pub nested : AllByRecursion AreNested held
  pub urls_are : urls ≡ urls_in_order held
  pub entries_are : entries ≡ entries_of held
