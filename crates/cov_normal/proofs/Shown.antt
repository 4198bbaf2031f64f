-- Runs show the counts that they have.
use Rattle.std.proofs.Common.{◌≡◌, ℕ, zero, suc, ◌+◌, ◌<◌, ◌≤◌, true, false, List, [], ◌∷◌, refl, ap, ◌∙◌, subst, arith, length, drop}
use Rattle.std.specs.Prelude.{cond, Some, slice_get}
use Rattle.std.proofs.lemmas.Bool.Decides.{nat_tests}
use Rattle.cov_model.specs.declared.report.Range.{Range}
use Rattle.cov_model.specs.Nesting.{has_offset}
use Rattle.cov_steps.specs.Runs.{AreRuns, count_in}
use Rattle.cov_normal.specs.Stack.{Shows, AllShow, AreEndToEnd}

has-offset : (o : ℕ) (r : Range) → r.start ≤ o → o < r.end → has_offset o r ≡ true
has-offset o r low high = grind (arith, nat_tests)

has-not : (o : ℕ) (r : Range) → r.end ≤ o → has_offset o r ≡ false
has-not o r past = grind (arith, nat_tests)

pub all-show : (f : ℕ → ℕ) (s e : ℕ) (rs : List Range) → AreEndToEnd s e rs → ((o : ℕ) → s ≤ o → f o ≡ count_in rs o) → AllShow f s e rs
all-show f s e [] h same = h
all-show f s e (r ∷ rs) h same =
    let starts = h.0 in
    let up = h.1 in (
      starts,
      (omega arith, λ o low high. same o (omega arith) ∙ ap (λ b. cond b r.count (count_in rs o)) (has-offset o r low high)),
      all-show f r.end e rs h.2 (λ o low. same o (omega arith) ∙ ap (λ b. cond b r.count (count_in rs o)) (has-not o r low)),
    )

pub runs-end-to-end : (s e : ℕ) (rs : List Range) → AreRuns s e rs → AreEndToEnd s e rs
runs-end-to-end s e [] h = h
runs-end-to-end s e (r ∷ rs) h = (h.0, h.1, runs-end-to-end r.end e rs h.3)

-- one run more is read
drop-next : {A : Type 0} (xs : List A) (i : ℕ) (x : A) → slice_get xs i ≡ Some x → drop i xs ≡ x ∷ drop (suc i) xs
drop-next [] i x e = absurd cc
drop-next (y ∷ ys) zero x e = let is : y ≡ x = cc in ap (λ z. z ∷ ys) is
drop-next (y ∷ ys) (suc i) x e = drop-next ys i x e

pub show-next : (f : ℕ → ℕ) (at end i : ℕ) (rs : List Range) (r : Range) → slice_get rs i ≡ Some r → AllShow f at end (drop i rs)
    → (r.start ≡ at) × Shows f r × AllShow f r.end end (drop (i + 1) rs)
show-next f at end i rs r e h =
    let next : suc i ≡ i + 1 = omega arith in
    let shows = subst (AllShow f at end) (drop-next rs i r e) h in
    (shows.0, shows.1, subst (λ n. AllShow f r.end end (drop n rs)) next shows.2)

drop-all : {A : Type 0} (xs : List A) (i : ℕ) → length xs ≤ i → drop i xs ≡ []
drop-all [] zero le = refl
drop-all [] (suc i) le = refl
drop-all (x ∷ xs) zero le = absurd (omega arith)
drop-all (x ∷ xs) (suc i) le = drop-all xs i (omega arith)

pub show-end : (f : ℕ → ℕ) (at end i : ℕ) (rs : List Range) → length rs ≤ i → AllShow f at end (drop i rs) → at ≡ end
show-end f at end i rs le h = subst (AllShow f at end) (drop-all rs i le) h
