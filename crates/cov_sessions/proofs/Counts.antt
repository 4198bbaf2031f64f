-- Counts that each of some cases raises.
use Rattle.std.proofs.Common.{◌≡◌, ℕ, zero, suc, ◌+◌, ◌≤◌, ◌-◌, ◌^◌, Bool, true, false, List, [], ◌∷◌, map, length, refl, sym, ap, subst, ◌∙◌, arith}
use Rattle.std.specs.Prelude.{min}
use Rattle.cov_io.specs.Causes.{Rose}
use Rattle.cov_io.specs.Links.{counted_if}
use Rattle.cov_links.specs.Together.{counted_all}

abbrev most : ℕ
most = 2 ^ 64 - 1

up-if : (b : Bool) (c : ℕ) → c ≤ most → (c ≤ counted_if b c) × (counted_if b c ≤ most)
up-if true c le = (omega arith, omega arith)
up-if false c le = (omega arith, le)

up-all : (bs : List Bool) (c : ℕ) → c ≤ most → c ≤ counted_all bs c
up-all [] c le = omega arith
up-all (b ∷ bs) c le = let one = up-if b c le in let rest = up-all bs (counted_if b c) one.1 in omega (arith, one.0, rest)

-- the first case raises the count
pub rose-first : (b : Bool) (bs : List Bool) (c : ℕ) → b ≡ true → Rose c (counted_all (b ∷ bs) c)
rose-first b bs c e = subst (λ x. Rose c (counted_all (x ∷ bs) c)) (sym e) (up-all bs (min (c + 1) most) (omega arith))

-- a later one does
pub rose-later : (b : Bool) (bs : List Bool) (c : ℕ) → b ≡ false → Rose c (counted_all bs c) → Rose c (counted_all (b ∷ bs) c)
rose-later b bs c e rose = subst (λ x. Rose c (counted_all (x ∷ bs) c)) (sym e) rose

-- each does
pub counted-each : {L : Type 0} (x : L) (links : List L) (c : ℕ) → counted_all (map (λ (link : L). true) (x ∷ links)) c ≡ min (c + length (x ∷ links)) most
counted-each x [] c = omega arith
counted-each x (y ∷ links) c = let rest = counted-each y links (min (c + 1) most) in omega (arith, rest)
