-- What one more run at the end makes of a list.
use Rattle.std.proofs.Common.{◌≡◌, ℕ, zero, suc, ◌+◌, ◌<◌, ◌≤◌, true, false, List, [], ◌∷◌, ◌++◌, refl, sym, ap, ◌∙◌, arith, length}
use Rattle.std.specs.Prelude.{cond, eqb, get_or}
use Rattle.std.proofs.Math.ListN.{set}
use Rattle.std.proofs.lemmas.Bool.Decides.{nat_tests}
use Rattle.std.proofs.lemmas.List.{set-get_or}
use Rattle.std.proofs.lemmas.Bool.{ne_eqb}
use Rattle.cov_model.specs.declared.report.Range.{Range}
use Rattle.cov_model.specs.Normal.{range}
use Rattle.cov_steps.specs.Walking.{pushed}

eqb-is : (a b : ℕ) → a ≡ b → eqb a b ≡ true
eqb-is a b e = grind (arith, nat_tests)

-- the last run made longer
pub pushed-same : (rs : List Range) (i : ℕ) (last run : Range) → suc i ≡ length rs → last ≡ get_or rs i last → last.count ≡ run.count
    → set rs i (range last.start run.end last.count) ≡ pushed rs run
pushed-same [] i last run is at same = absurd (omega arith)
pushed-same (x ∷ []) zero last run is at same =
    let equal : eqb x.count run.count ≡ true = eqb-is x.count run.count (sym (ap (λ (r : Range). r.count) at) ∙ same) in
    (λ j. range (at j).start run.end (at j).count ∷ []) ∙ sym (ap (λ b. cond b (range x.start run.end x.count ∷ []) (x ∷ run ∷ [])) equal)
pushed-same (x ∷ []) (suc i) last run is at same = absurd (omega arith)
pushed-same (x ∷ y ∷ rs) zero last run is at same = absurd (omega arith)
pushed-same (x ∷ y ∷ rs) (suc i) last run is at same = ap (λ more. x ∷ more) (pushed-same (y ∷ rs) i last run (omega arith) at same)

-- one more run behind the last
pushed-other : (rs : List Range) (i : ℕ) (last run : Range) → suc i ≡ length rs → last ≡ get_or rs i last → ¬ (last.count ≡ run.count) → rs ++ run ∷ [] ≡ pushed rs run
pushed-other [] i last run is at other = absurd (omega arith)
pushed-other (x ∷ []) zero last run is at other =
    let unequal : eqb x.count run.count ≡ false = ne_eqb x.count run.count (λ e. other (ap (λ (r : Range). r.count) at ∙ e)) in
    sym (ap (λ b. cond b (range x.start run.end x.count ∷ []) (x ∷ run ∷ [])) unequal)
pushed-other (x ∷ []) (suc i) last run is at other = absurd (omega arith)
pushed-other (x ∷ y ∷ rs) zero last run is at other = absurd (omega arith)
pushed-other (x ∷ y ∷ rs) (suc i) last run is at other = ap (λ more. x ∷ more) (pushed-other (y ∷ rs) i last run (omega arith) at other)

-- the same where the last was written back as it was
pub pushed-behind : (rs was : List Range) (i : ℕ) (last run : Range) → suc i ≡ length rs → last ≡ get_or rs i last → ¬ (last.count ≡ run.count) → was ≡ set rs i last
    → was ++ run ∷ [] ≡ pushed rs run
pushed-behind rs was i last run is at other back = ap (λ xs. xs ++ run ∷ []) (back ∙ ap (λ r. set rs i r) at ∙ set-get_or rs i last) ∙ pushed-other rs i last run is at other

pub no-run : (n : ℕ) → (0 < n → false ≡ true) → n ≡ 0
no-run zero some = refl
no-run (suc n) some = absurd (let e : false ≡ true = some (omega arith) in cc)

pub pushed-first : (rs : List Range) (run : Range) → length rs ≡ 0 → rs ++ run ∷ [] ≡ pushed rs run
pushed-first [] run none = refl
pushed-first (x ∷ rs) run none = absurd (omega arith)

-- It adds one run at most.
pub length-pushed : (rs : List Range) (run : Range) → length (pushed rs run) ≤ length rs + 1
length-pushed [] run = omega arith
length-pushed (last ∷ []) run = elim (eqb last.count run.count) as (λ b. length (cond b (range last.start run.end last.count ∷ []) (last ∷ run ∷ [])) ≤ 2) [ true ↦ omega arith | false ↦ omega arith ]
length-pushed (x ∷ y ∷ rs) run = omega (arith, length-pushed (y ∷ rs) run)
