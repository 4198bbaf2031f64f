-- The count of faults over several calls.
use Rattle.std.proofs.Common.{◌≡◌, ◌≤◌, ℕ, Bool, true, false, List, [], ◌∷◌, ◌++◌, refl, sym, ap, ◌∙◌, inl, inr, subst}
use Rattle.std.specs.Prelude.{◌⊎◌, ◌||◌, Option, None, IsTrue, IsFalse}
use Rattle.std.specs.List.{list_any}
use Rattle.std.proofs.Common.{arith}
use Rattle.std.proofs.lemmas.List.Folds.{list_any-append}
use Rattle.cov_io.specs.Causes.{Rose}
use Rattle.cov_io.specs.Told.{Files}
use Rattle.cov_report.specs.declared.answer.SkipCause.{SkipCause}
use Rattle.cov_report.specs.declared.answer.Skip.{Skip}
use Rattle.cov_report.specs.Skips.{is_absent, has_absent}
use Rattle.cov_report.specs.Counting.{CauseCounts, HasCounted}

-- ---- a rise, over more calls

pub Rose-before : (a b c : ℕ) → a ≤ b → Rose b c → Rose a c
Rose-before a b c le rose = omega arith

pub Rose-behind : (a b c : ℕ) → Rose a b → b ≤ c → Rose a c
Rose-behind a b c rose le = omega arith

-- ---- what was left out

or-false : (a b : Bool) → a || b ≡ false → (a ≡ false) × (b ≡ false)
or-false true b e = absurd cc
or-false false b e = (refl, e)

or-true : (a b : Bool) → a || b ≡ true → (a ≡ true) ⊎ (b ≡ true)
or-true true b e = inl refl
or-true false b e = inr e

or-nothing : (a : Bool) → (a || false) ≡ a
or-nothing true = refl
or-nothing false = refl

more : (old : List Skip) (s : Skip) → has_absent (old ++ s ∷ []) ≡ (has_absent old || is_absent s.cause)
more old s = list_any-append (λ (x : Skip). is_absent x.cause) old (s ∷ []) ∙ ap (λ b. has_absent old || b) (or-nothing (is_absent s.cause))

module _ (told : Option Files) where
  pub Counted-same : (before now : ℕ) (old new : List Skip) → now ≡ before → new ≡ old → HasCounted told before now old new
  Counted-same before now old new e same =
      record { kept = λ h. (subst (λ s. IsFalse (has_absent s)) same h, e); untold = λ t h. inl (subst (λ s. IsTrue (has_absent s)) same h) }

  pub Counted-skip : (before now : ℕ) (old new : List Skip) (s : Skip) → CauseCounts told before now s.cause → new ≡ old ++ s ∷ [] → HasCounted told before now old new
  Counted-skip before now old new s counts e =
      record {
        kept = λ h. let p = or-false (has_absent old) (is_absent s.cause) (sym (more old s) ∙ ap has_absent (sym e) ∙ h) in (p.0, counts.kept p.1);
        untold = λ t h. elim (or-true (has_absent old) (is_absent s.cause) (sym (more old s) ∙ ap has_absent (sym e) ∙ h)) [ inl there ↦ inl there | inr here ↦ inr (counts.untold t here) ];
      }

  pub Counted-more : (a b c : ℕ) (first then last : List Skip) → a ≤ b → b ≤ c → HasCounted told a b first then → HasCounted told b c then last → HasCounted told a c first last
  Counted-more a b c first then last ab bc one two =
      record {
        kept = λ h. let p = two.kept h in let q = one.kept p.0 in (q.0, p.1 ∙ q.1);
        untold = λ t h. elim (two.untold t h) [
          | inl was ↦ elim (one.untold t was) [ inl had ↦ inl had | inr rose ↦ inr (Rose-behind a b c rose bc) ]
          | inr rose ↦ inr (Rose-before a b c ab rose)
        ];
      }
