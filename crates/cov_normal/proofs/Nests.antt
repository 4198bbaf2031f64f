-- The nested normal list is the one that nests.
use Rattle.std.proofs.Common.{◌≡◌, ◌⊎◌, ℕ, zero, suc, ◌+◌, ◌-◌, ◌*◌, ◌<◌, ◌≤◌, true, false, List, [], ◌∷◌, ◌++◌, refl, sym, ap, ◌∙◌, subst, arith, inl, inr}
use Rattle.std.specs.Prelude.{Option, None, Some, unwrap_or, ◌==◌, not}
use Rattle.std.proofs.lemmas.Bool.{cases_lt, eqb-true}
use Rattle.std.proofs.lemmas.Bool.Decides.{nat_tests}
use Rattle.cov_model.specs.declared.report.Range.{Range}
use Rattle.cov_model.specs.Normal.{range}
use Rattle.cov_model.specs.Nested.{first_where, end_where, list_if_some, nest_to, nest}
use Rattle.cov_normal.specs.Nests.{IsChild, Nests}
use Rattle.cov_normal.specs.Nests.Nests.{plain, child}
use Rattle.cov_normal.proofs.Found.{IsFound, first-found, first-or-end, last-found}

-- ---- there is only one

moves : (f : ℕ → ℕ) (a b p q : ℕ) (xs : List Range) → a ≡ b → p ≡ q → Nests f b (suc q) (f b) xs → Nests f a (suc p) (f a) xs
moves f a b p q xs ab pq h = subst (λ n. Nests f n (suc p) (f n) xs) (sym ab) (subst (λ n. Nests f b (suc n) (f b) xs) (sym pq) h)

moves-behind : (f : ℕ → ℕ) (p q e c : ℕ) (xs : List Range) → p ≡ q → Nests f (suc q) e c xs → Nests f (suc p) e c xs
moves-behind f p q e c xs pq h = subst (λ n. Nests f (suc n) e c xs) (sym pq) h

not-past : (m n : ℕ) → ¬ (m < n) → ¬ (n < m) → m ≡ n
not-past m n le ge = omega arith

one-first : (f : ℕ → ℕ) (s e c a b p a' b' p' : ℕ) → IsChild f s e c a b p → IsChild f s e c a' b' p' → ¬ (a < a')
one-first f s e c a b p a' b' p' h h' lt =
    let low = h.low in
    let high = h.high in
    let itself : a ≤ a = omega arith in
    let inside : a < b = omega arith in
    h.other a itself inside (h'.first a h.from lt)

one-back : (f : ℕ → ℕ) (s e c a b p a' b' p' : ℕ) → a ≡ a' → IsChild f s e c a b p → IsChild f s e c a' b' p' → ¬ (b < b')
one-back f s e c a b p a' b' p' is h h' lt =
    let low = h.low in
    let high = h.high in
    let to = h'.to in
    let before : b < e = omega arith in
    let behind : a' ≤ b = omega arith in
    h'.other b behind lt (h.back before)

one-last : (f : ℕ → ℕ) (s e c a b p a' b' p' : ℕ) → a ≡ a' → b ≡ b' → IsChild f s e c a b p → IsChild f s e c a' b' p' → ¬ (p < p')
one-last f s e c a b p a' b' p' is to h h' lt =
    let high = h'.high in
    let within : p' < b = omega arith in
    h.last p' lt within (h'.same ∙ ap f (sym is))

pub only : (f : ℕ → ℕ) (s e c : ℕ) (xs ys : List Range) → Nests f s e c xs → Nests f s e c ys → xs ≡ ys
only f s e c xs ys (plain _ _ _ _ all is) (plain _ _ _ _ all' is') = is ∙ sym is'
only f s e c xs ys (plain _ _ _ _ all is) (child _ _ _ a b p inside behind _ h i k is') =
    let low = h.low in
    let high = h.high in
    let to = h.to in
    let itself : a ≤ a = omega arith in
    let within : a < b = omega arith in
    let before : a < e = omega arith in
    absurd (h.other a itself within (all a h.from before))
only f s e c xs ys (child _ _ _ a b p inside behind _ h i k is) (plain _ _ _ _ all is') =
    let low = h.low in
    let high = h.high in
    let to = h.to in
    let itself : a ≤ a = omega arith in
    let within : a < b = omega arith in
    let before : a < e = omega arith in
    absurd (h.other a itself within (all a h.from before))
only f s e c xs ys (child _ _ _ a b p inside behind _ h i k is) (child _ _ _ a' b' p' inside' behind' _ h' i' k' is') =
    let ea : a ≡ a' = not-past a a' (one-first f s e c a b p a' b' p' h h') (one-first f s e c a' b' p' a b p h' h) in
    let eb : b ≡ b' = not-past b b' (one-back f s e c a b p a' b' p' ea h h') (one-back f s e c a' b' p' a b p (sym ea) h' h) in
    let ep : p ≡ p' = not-past p p' (one-last f s e c a b p a' b' p' ea eb h h') (one-last f s e c a' b' p' a b p (sym ea) (sym eb) h' h) in
    let same = only f a (suc p) (f a) inside inside' i (moves f a a' p p' inside' ea ep i') in
    let also = only f (suc p) e c behind behind' k (moves-behind f p p' e c behind' ep k') in
    is ∙ (λ j. range (ea j) (suc (ep j)) (f (ea j)) ∷ (same j ++ also j)) ∙ sym is'

-- ---- the nested list does

same-count : (m n : ℕ) → (m == n) ≡ true → m ≡ n
same-count m n e = eqb-true m n e

other-count : (m n : ℕ) → (m == n) ≡ false → ¬ (m ≡ n)
other-count m n e = grind (arith, nat_tests)

not-other : (m n : ℕ) → not (m == n) ≡ false → m ≡ n
not-other m n e = grind (arith, nat_tests)

is-other : (m n : ℕ) → not (m == n) ≡ true → ¬ (m ≡ n)
is-other m n e = grind (arith, nat_tests)

itself-same : (n : ℕ) → (n == n) ≡ true
itself-same n = grind (arith, nat_tests)

-- there is fuel for so many offsets
abbrev Enough : (ℕ → ℕ) → ℕ → ℕ → ℕ → ℕ → Type 0
Enough f fuel s e c = (2 * (e - s) < fuel) ⊎ ((2 * (e - s) ≤ fuel) × (f s ≡ c))

-- the ranges from a on
abbrev from_first : ℕ → ℕ → ℕ → (ℕ → ℕ) → ℕ → List Range
from_first fuel end c f a =
    let b = unwrap_or (first_where (λ o. f o == c) a end) end in
    let q = end_where (λ o. f o == f a) a b in
    range a q (f a) ∷ (nest_to fuel a q (f a) f ++ nest_to fuel q end c f)

enough-inside : (f : ℕ → ℕ) (fuel s e c a p : ℕ) → s ≤ a → p < e → ¬ (f a ≡ c) → Enough f (suc fuel) s e c → Enough f fuel a (suc p) (f a)
enough-inside f fuel s e c a p from to other (inl h) = inr (omega arith, refl)
enough-inside f fuel s e c a p from to other (inr h) =
    elim (cases_lt s a) [
      | inl past ↦ let le = h.0 in inr (omega arith, refl)
      | inr first ↦ let is : a ≡ s = omega arith in absurd (other (ap f is ∙ h.1))
    ]

enough-behind : (f : ℕ → ℕ) (fuel s e c a p : ℕ) → s ≤ a → a ≤ p → p < e → Enough f (suc fuel) s e c → Enough f fuel (suc p) e c
enough-behind f fuel s e c a p from up to (inl h) = inl (omega arith)
enough-behind f fuel s e c a p from up to (inr h) = let le = h.0 in inl (omega arith)

nests-first : (f : ℕ → ℕ) (fuel s e c a b p : ℕ) → ((s e c : ℕ) → Enough f fuel s e c → Nests f s e c (nest_to fuel s e c f))
    → Enough f (suc fuel) s e c → IsChild f s e c a b p → b ≡ unwrap_or (first_where (λ o. f o == c) a e) e → end_where (λ o. f o == f a) a b ≡ suc p
    → Nests f s e c (from_first fuel e c f a)
nests-first f fuel s e c a b p nests enough h back last =
    let low = h.low in
    let high = h.high in
    let to = h.to in
    let from = h.from in
    let itself : a ≤ a = omega arith in
    let within : a < b = omega arith in
    let before : p < e = omega arith in
    let is : end_where (λ o. f o == f a) a (unwrap_or (first_where (λ o. f o == c) a e) e) ≡ suc p = ap (λ n. end_where (λ o. f o == f a) a n) (sym back) ∙ last in
    child s e c a b p (nest_to fuel a (suc p) (f a) f) (nest_to fuel (suc p) e c f) (from_first fuel e c f a) h
    (nests a (suc p) (f a) (enough-inside f fuel s e c a p from before (h.other a itself within) enough))
    (nests (suc p) e c (enough-behind f fuel s e c a p from low before enough))
    (ap (λ q. range a q (f a) ∷ (nest_to fuel a q (f a) f ++ nest_to fuel q e c f)) is)

behind-first : (f : ℕ → ℕ) (e c a b : ℕ) → a ≤ b → a < e → (b < e → (f b == c) ≡ true) → ¬ (f a ≡ c) → a < b
behind-first f e c a b le before here other =
    elim (cases_lt a b) [
      | inl lt ↦ lt
      | inr ge ↦ let is : a ≡ b = omega arith in let lt : b < e = omega arith in absurd (other (ap f is ∙ same-count (f b) c (here lt)))
    ]

nests-next : (f : ℕ → ℕ) (fuel s e c : ℕ) → ((s e c : ℕ) → Enough f fuel s e c → Nests f s e c (nest_to fuel s e c f))
    → Enough f (suc fuel) s e c → (o : Option ℕ) → IsFound (λ o. not (f o == c)) s e o → Nests f s e c (list_if_some (from_first fuel e c f) o)
nests-next f fuel s e c nests enough None h = plain s e c [] (λ o low high. not-other (f o) c (h o low high)) refl
nests-next f fuel s e c nests enough (Some a) h =
    let high = h.1 in
    let le : a ≤ e = omega arith in
    let b = unwrap_or (first_where (λ o. f o == c) a e) e in
    let back = first-or-end (λ o. f o == c) a e le in
    let there : a < b = behind-first f e c a b back.from high back.here (is-other (f a) c h.2) in
    let last = last-found (λ o. f o == f a) a b there (itself-same (f a)) in
    let p = last.0 in
    nests-first f fuel s e c a b p nests enough
    (record {
      from = h.0;
      to = back.to;
      first = λ o low high. not-other (f o) c (h.3 o low high);
      other = λ o low high. other-count (f o) c (back.before o low high);
      back = λ lt. same-count (f b) c (back.here lt);
      low = last.2.from;
      high = last.2.to;
      same = same-count (f p) (f a) last.2.here;
      last = λ o low high. other-count (f o) (f a) (last.2.behind o low high);
    })
    refl last.1

nests-to : (f : ℕ → ℕ) (fuel s e c : ℕ) → Enough f fuel s e c → Nests f s e c (nest_to fuel s e c f)
unfolding nest_to
nests-to f zero s e c (inl enough) = absurd (omega arith)
nests-to f zero s e c (inr enough) = let le = enough.0 in plain s e c [] (λ o low high. absurd (omega arith)) refl
nests-to f (suc fuel) s e c enough =
    nests-next f fuel s e c (nests-to f fuel) enough (first_where (λ o. not (f o == c)) s e) (first-found (λ o. not (f o == c)) s e)

pub nests : (f : ℕ → ℕ) (s e c : ℕ) → Nests f s e c (nest s e c f)
nests f s e c = nests-to f (2 * (e - s) + 1) s e c (inl (omega arith))
