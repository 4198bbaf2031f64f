-- The numbers of a made snapshot are small.
use Rattle.std.proofs.Common.{◌%◌, ◌<◌, ◌≤◌, ℕ, [], ◌∷◌, arith}
use Rattle.std.proofs.Math.Nat.{mod-lt}
use Rattle.cov_laws.specs.Laws.{IsInBounds, AreInBounds}
use Rattle.made_snapshots.specs.Draws.{behind, draw}
use Rattle.made_snapshots.specs.Made.{block, inner, outer, snapshot}

block-bounds : (base x : ℕ) → base ≤ 4000 → IsInBounds (block base x)
block-bounds base x low =
    let start : draw 0 x % 500 < 500 = mod-lt (draw 0 x) (omega arith) in
    let end : draw 1 x % 1000 < 1000 = mod-lt (draw 1 x) (omega arith) in
    let count : draw 2 x % 5 < 5 = mod-lt (draw 2 x) (omega arith) in
    (omega arith, omega arith, omega arith)

outer-bounds : (x : ℕ) → AreInBounds (record { url = []; functions = outer x ∷ [] } ∷ [])
outer-bounds x =
    ((((omega arith, omega arith, omega arith), (block-bounds 0 x (omega arith), (block-bounds 2000 (behind 3 x) (omega arith), (block-bounds 4000 (behind 6 x) (omega arith), tt)))), tt), tt)

inner-bounds : (x : ℕ) → AreInBounds (record { url = []; functions = inner x ∷ [] } ∷ [])
inner-bounds x =
    let root : draw 0 x % 5 < 5 = mod-lt (draw 0 x) (omega arith) in
    let end : draw 1 x % 100 < 100 = mod-lt (draw 1 x) (omega arith) in
    let count : draw 2 x % 5 < 5 = mod-lt (draw 2 x) (omega arith) in
    ((((omega arith, omega arith, omega arith), ((omega arith, omega arith, omega arith), tt)), tt), tt)

pub made-bounds : (number x : ℕ) → AreInBounds (snapshot number x)
made-bounds number x = (((outer-bounds x).0.0, ((inner-bounds (behind 9 x)).0.0, tt)), tt)
