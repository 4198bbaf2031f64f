-- The snapshots that are made of a seed. Each has one script with two functions, and takes twelve draws; the next one goes on
-- from the state that it leaves.
use Rattle.std.specs.Prelude.{ℕ, ◌+◌, ◌*◌, ◌%◌, List, [], ◌∷◌, ◌++◌, map, true, codes, decimal}
use Rattle.cov_text.specs.Listing.{counted}
use Rattle.cov_model.specs.Normal.{range}
use Rattle.cov_model.specs.declared.report.Range.{Range}
use Rattle.cov_model.specs.declared.report.FunctionReport.{FunctionReport}
use Rattle.cov_model.specs.declared.snapshot.Snapshot.{Snapshot}
use Rattle.made_snapshots.specs.Draws.{behind, draw}

-- a block behind this offset, by the three draws from a state on
abbrev pub block : ℕ → ℕ → Range
block base x =
    let start = base + draw 0 x % 500 in
    range start (start + 1 + draw 1 x % 1000) (draw 2 x % 5)

-- what runs once: three blocks, by nine draws
abbrev pub outer : ℕ → FunctionReport
outer x = record { name = []; block = true; ranges = range 0 10000 1 ∷ block 0 x ∷ block 2000 (behind 3 x) ∷ block 4000 (behind 6 x) ∷ [] }

-- a function in it, with one block, by three draws
abbrev pub inner : ℕ → FunctionReport
inner x =
    record { name = codes "f"; block = true; ranges = range 8000 9000 (draw 0 x % 5) ∷ range 8100 (8100 + 1 + draw 1 x % 100) (draw 2 x % 5) ∷ [] }

-- fifty urls come again and again
abbrev pub url : ℕ → List ℕ
url number = codes "file:///made/" ++ (decimal (number % 50) ++ codes ".js")

-- the snapshot of a number, by twelve draws
abbrev pub snapshot : ℕ → ℕ → Snapshot
snapshot number x = record { url = url number; functions = outer x ∷ inner (behind 9 x) ∷ [] } ∷ []

-- the first so many snapshots of a seed
unfoldable pub made : ℕ → ℕ → List Snapshot
made seed count = map (λ number. snapshot number (behind (12 * number) seed)) (counted 0 count)
