-- All sums of a list of snapshots, as one plain value: what a book has to know of the list that it stands for.
use Rattle.std.specs.Prelude.{◌≡◌, ℕ, Bool, List, map, IsTrue}
use Rattle.cov_model.specs.declared.snapshot.Snapshot.{Snapshot}
use Rattle.cov_model.specs.declared.sums.Key.{Key}
use Rattle.cov_text.specs.Listing.{offsets}
use Rattle.cov_model.specs.Sums.{root, total, flag, urls_in_order, keys_in_order, fits}

-- a function's sums: whether one report has blocks, the root counts, and the count at each offset of the root, from its start
pub record FunctionSums : Type 0 where
  pub key : Key
  pub block : Bool
  pub root : ℕ
  pub counts : List ℕ

-- the urls in byte order, and the functions in file order
pub record Held : Type 0 where
  pub urls : List (List ℕ)
  pub functions : List FunctionSums

abbrev pub sums_of : List Snapshot → Key → FunctionSums
sums_of snapshots key =
    record { key = key; block = flag snapshots key; root = root snapshots key; counts = map (total snapshots key) (offsets key.start key.end) }

unfoldable pub held_of : List Snapshot → Held
held_of snapshots = record { urls = urls_in_order snapshots; functions = map (sums_of snapshots) (keys_in_order snapshots) }

-- the sums are those of this list, and none passes the limit
pub record StandsFor (held : Held) (snapshots : List Snapshot) : Type 0 where
  pub fit : IsTrue (fits snapshots)
  pub sums : held ≡ held_of snapshots
