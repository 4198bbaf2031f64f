-- The first and the last offset that pass a test.
use Rattle.std.proofs.Common.{◌≡◌, ◌⊎◌, ℕ, zero, suc, ◌+◌, ◌-◌, ◌<◌, ◌≤◌, Bool, true, false, List, [], ◌∷◌, refl, sym, ap, ◌∙◌, subst, arith, inl, inr}
use Rattle.std.specs.Prelude.{cond, Option, None, Some, option_map, unwrap_or, filter, find}
use Rattle.std.proofs.lemmas.Bool.{cases_lt, cases_Bool}
use Rattle.cov_text.specs.Listing.{counted, offsets, last_of}
use Rattle.cov_model.specs.Nested.{first_where, end_where}

-- none of start..end passes
abbrev pub NonePass : (ℕ → Bool) → ℕ → ℕ → Type 0
NonePass test start end = (o : ℕ) → start ≤ o → o < end → test o ≡ false

-- ---- the first

-- what the search finds
abbrev pub IsFound : (ℕ → Bool) → ℕ → ℕ → Option ℕ → Type 0
IsFound test start end None = NonePass test start end
IsFound test start end (Some a) = (start ≤ a) × (a < end) × (test a ≡ true) × NonePass test start a

found-more : (test : ℕ → Bool) (s e : ℕ) (o : Option ℕ) → test s ≡ false → IsFound test (suc s) e o → IsFound test s e o
found-more test s e None here h = λ o low high.
    elim (cases_lt s o) [
      | inl past ↦ h o past high
      | inr first ↦ let is : o ≡ s = omega arith in ap test is ∙ here
    ]
found-more test s e (Some a) here h = (
  omega (arith, h.0),
  h.1,
  h.2,
  λ o low high.
      elim (cases_lt s o) [
        | inl past ↦ h.3 o past high
        | inr first ↦ let is : o ≡ s = omega arith in ap test is ∙ here
      ],
)

is-found : (test : ℕ → Bool) (n s e : ℕ) → s + n ≡ e → IsFound test s e (find test (counted s n))
is-found test zero s e is = λ o low high. absurd (omega arith)
is-found test (suc n) s e is =
    let later = is-found test n (suc s) e (omega arith) in
    elim (cases_Bool (test s)) [
      | inl yes' ↦ subst (λ b. IsFound test s e (cond b (Some s) (find test (counted (suc s) n)))) (sym yes') (omega arith, omega arith, yes', λ o low high. absurd (omega arith))
      | inr no' ↦ subst (λ b. IsFound test s e (cond b (Some s) (find test (counted (suc s) n)))) (sym no') (found-more test s e (find test (counted (suc s) n)) no' later)
    ]

pub first-found : (test : ℕ → Bool) (s e : ℕ) → IsFound test s e (first_where test s e)
first-found test s e =
    elim (cases_lt e s) [
      | inl lt ↦ let none : e - s ≡ 0 = omega arith in subst (λ n. IsFound test s e (find test (counted s n))) (sym none) (λ o low high. absurd (omega arith))
      | inr le ↦ is-found test (e - s) s e (omega arith)
    ]

-- the first that passes, or else the end
pub record IsFirst (test : ℕ → Bool) (start end b : ℕ) : Type 0 where
  pub from : start ≤ b
  pub to : b ≤ end
  pub before : NonePass test start b
  pub here : b < end → test b ≡ true

first-or : (test : ℕ → Bool) (s e : ℕ) (o : Option ℕ) → s ≤ e → IsFound test s e o → IsFirst test s e (unwrap_or o e)
first-or test s e None le h = record { from = le; to = omega arith; before = h; here = λ lt. absurd (omega arith) }
first-or test s e (Some a) le h = record { from = h.0; to = omega (arith, h.1); before = h.3; here = λ lt. h.2 }

pub first-or-end : (test : ℕ → Bool) (s e : ℕ) → s ≤ e → IsFirst test s e (unwrap_or (first_where test s e) e)
first-or-end test s e le = first-or test s e (first_where test s e) le (first-found test s e)

-- ---- the last

-- this is the last that passes
pub record IsLast (test : ℕ → Bool) (start end p : ℕ) : Type 0 where
  pub from : start ≤ p
  pub to : p < end
  pub here : test p ≡ true
  pub behind : NonePass test (suc p) end

abbrev Lasts : (ℕ → Bool) → ℕ → ℕ → List ℕ → Type 0
Lasts test s e xs = ((xs ≡ []) × NonePass test s e) ⊎ ((p : ℕ) × (last_of xs ≡ Some p) × IsLast test s e p)

last-more : (s p : ℕ) (xs : List ℕ) → last_of xs ≡ Some p → last_of (s ∷ xs) ≡ Some p
last-more s p [] e = absurd cc
last-more s p (x ∷ xs) e = e

lasts-next : (test : ℕ → Bool) (s e : ℕ) (xs : List ℕ) (b : Bool) → s < e → test s ≡ b → Lasts test (suc s) e xs → Lasts test s e (cond b (s ∷ xs) xs)
lasts-next test s e xs true lt here (inl h) =
    inr (s, ap (λ rest. last_of (s ∷ rest)) h.0, record { from = omega arith; to = lt; here = here; behind = h.1 })
lasts-next test s e xs false lt here (inl h) =
    inl (
      h.0,
      λ o low high.
          elim (cases_lt s o) [
            | inl past ↦ h.1 o past high
            | inr first ↦ let is : o ≡ s = omega arith in ap test is ∙ here
          ],
    )
lasts-next test s e xs true lt here (inr h) =
    inr (h.0, last-more s h.0 xs h.1, record { from = let low = h.2.from in omega arith; to = h.2.to; here = h.2.here; behind = h.2.behind })
lasts-next test s e xs false lt here (inr h) =
    inr (h.0, h.1, record { from = let low = h.2.from in omega arith; to = h.2.to; here = h.2.here; behind = h.2.behind })

lasts : (test : ℕ → Bool) (n s e : ℕ) → s + n ≡ e → Lasts test s e (filter test (counted s n))
lasts test zero s e is = inl (refl, λ o low high. absurd (omega arith))
lasts test (suc n) s e is = lasts-next test s e (filter test (counted (suc s) n)) (test s) (omega arith) refl (lasts test n (suc s) e (omega arith))

-- one past the last that passes, where some one does
pub last-found : (test : ℕ → Bool) (s e : ℕ) → s < e → test s ≡ true → (p : ℕ) × (end_where test s e ≡ suc p) × IsLast test s e p
last-found test s e lt here =
    by (lasts test (e - s) s e (omega arith))
  where
    by : Lasts test s e (filter test (offsets s e)) → (p : ℕ) × (end_where test s e ≡ suc p) × IsLast test s e p
    by (inl h) = absurd (let low : s ≤ s = omega arith in let none = h.1 s low lt in cc)
    by (inr h) = (h.0, ap (λ o. unwrap_or (option_map suc o) s) h.1, h.2)
