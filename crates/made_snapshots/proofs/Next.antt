-- One made snapshot more, and the bounds of its numbers.
use Rattle.std.proofs.Common.{◌≡◌, ℕ, zero, suc, ◌+◌, ◌*◌, [], ◌∷◌, ◌++◌, map, refl, ap, ◌∙◌, arith, add-one}
use Rattle.std.proofs.lemmas.List.{map-append}
use Rattle.cov_text.specs.Listing.{counted}
use Rattle.cov_model.specs.declared.snapshot.Snapshot.{Snapshot}
use Rattle.made_snapshots.specs.Draws.{next, behind}
use Rattle.made_snapshots.specs.Made.{made, snapshot}

-- ---- one more

counted-more : (n start at : ℕ) → at ≡ start + n → counted start (suc n) ≡ counted start n ++ at ∷ []
counted-more zero start at is = let same : start ≡ at = omega (arith, is) in ap (λ k. k ∷ []) same
counted-more (suc n) start at is = ap (λ ks. start ∷ ks) (counted-more n (suc start) at (omega (arith, is)))

behind-more : (n m x : ℕ) → behind (n + m) x ≡ behind n (behind m x)
behind-more zero m x = ap (λ k. behind k x) (let same : 0 + m ≡ m = omega arith in same)
behind-more (suc n) m x = ap (λ k. behind k x) (let same : suc n + m ≡ suc (n + m) = omega arith in same) ∙ ap next (behind-more n m x)

-- the state behind one snapshot more
pub twelve-more : (n x : ℕ) → behind (12 * (n + 1)) x ≡ behind 12 (behind (12 * n) x)
twelve-more n x = ap (λ k. behind k x) (let same : 12 * (n + 1) ≡ 12 + 12 * n = omega arith in same) ∙ behind-more 12 (12 * n) x

pub made-more : (seed n : ℕ) → made seed (n + 1) ≡ made seed n ++ snapshot n (behind (12 * n) seed) ∷ []
unfolding made
made-more seed n =
    let one : ℕ → Snapshot = λ number. snapshot number (behind (12 * number) seed) in
    ap (λ k. map one (counted 0 k)) (add-one n) ∙ ap (map one) (counted-more n 0 n (omega arith)) ∙ map-append one (counted 0 n) (n ∷ [])

pub made-none : (seed : ℕ) → made seed 0 ≡ []
unfolding made
made-none seed = refl
