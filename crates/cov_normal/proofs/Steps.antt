-- One step along a list.
use Rattle.std.proofs.Common.{◌≡◌, ℕ, zero, suc, ◌+◌, Bool, true, false, List, [], ◌∷◌, ◌++◌, refl, ap, ◌∙◌, arith, take}
use Rattle.std.specs.Prelude.{cond, Some, filter}
use Rattle.std.specs.List.{slice_get}
use Rattle.std.proofs.lemmas.List.{append-nil}

filter-next : {A : Type 0} (p : A → Bool) (xs : List A) (i : ℕ) (x : A) → slice_get xs i ≡ Some x → filter p (take (suc i) xs) ≡ filter p (take i xs) ++ cond (p x) (x ∷ []) []
filter-next p [] i x e = absurd cc
filter-next p (y ∷ ys) zero x e = let is : y ≡ x = cc in ap (λ z. cond (p z) (z ∷ []) []) is
filter-next p (y ∷ ys) (suc i) x e =
    ap (λ zs. cond (p y) (y ∷ zs) zs) (filter-next p ys i x e)
    ∙ elim (p y) as (λ b. cond b (y ∷ (filter p (take i ys) ++ cond (p x) (x ∷ []) [])) (filter p (take i ys) ++ cond (p x) (x ∷ []) []) ≡ cond b (y ∷ filter p (take i ys)) (filter p (take i ys)) ++ cond (p x) (x ∷ []) []) [
      | true ↦ refl
      | false ↦ refl
    ]

-- The next element is kept,
pub filter-kept : {A : Type 0} (p : A → Bool) (xs : List A) (i : ℕ) (x : A) → slice_get xs i ≡ Some x → p x ≡ true → filter p (take (i + 1) xs) ≡ filter p (take i xs) ++ x ∷ []
filter-kept p xs i x e is =
    let next : i + 1 ≡ suc i = omega arith in
    ap (λ n. filter p (take n xs)) next ∙ filter-next p xs i x e ∙ ap (λ b. filter p (take i xs) ++ cond b (x ∷ []) []) is

-- or it isn't.
pub filter-left : {A : Type 0} (p : A → Bool) (xs : List A) (i : ℕ) (x : A) → slice_get xs i ≡ Some x → p x ≡ false → filter p (take (i + 1) xs) ≡ filter p (take i xs)
filter-left p xs i x e is =
    let next : i + 1 ≡ suc i = omega arith in
    ap (λ n. filter p (take n xs)) next ∙ filter-next p xs i x e ∙ ap (λ b. filter p (take i xs) ++ cond b (x ∷ []) []) is ∙ append-nil (filter p (take i xs))
