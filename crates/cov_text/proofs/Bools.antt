-- Tests that hold together, and of each element.
use Rattle.std.proofs.Common.{◌≡◌, Bool, true, false, List, [], ◌∷◌, refl, sym, ap, ◌∙◌}
use Rattle.std.specs.Prelude.{◌&&◌, ◌||◌, cond, filter}
use Rattle.std.specs.List.{list_all, list_any}
use Rattle.std.proofs.lemmas.Bool.{and_parts, and_from, or_parts}

pub or-same : (a b : Bool) → (a ≡ true → b ≡ true) → (a || b) ≡ b
or-same true b f = sym (f refl)
or-same false b f = refl

pub swap-and : (a b c : Bool) → (a && (b && c)) ≡ (b && (a && c))
swap-and true b c = refl
swap-and false true c = refl
swap-and false false c = refl

pub same-tests : (a b : Bool) → (a ≡ true → b ≡ true) → (b ≡ true → a ≡ true) → a ≡ b
same-tests true b f g = sym (f refl)
same-tests false true f g = g refl
same-tests false false f g = refl

pub all-same : {A : Type 0} (p q : A → Bool) → ((x : A) → p x ≡ q x) → (xs : List A) → list_all p xs ≡ list_all q xs
all-same p q same [] = refl
all-same p q same (x ∷ xs) = (λ i. same x i && list_all p xs) ∙ ap (λ b. q x && b) (all-same p q same xs)

pub all-more : {A : Type 0} (p q : A → Bool) → ((x : A) → p x ≡ true → q x ≡ true) → (xs : List A) → list_all p xs ≡ true → list_all q xs ≡ true
all-more p q h [] e = refl
all-more p q h (x ∷ xs) e =
    let both = and_parts (p x) (list_all p xs) e in
    and_from (q x) (list_all q xs) (h x both.0) (all-more p q h xs both.1)

pub all-yes : {A : Type 0} (xs : List A) → list_all (λ x. true) xs ≡ true
all-yes [] = refl
all-yes (x ∷ xs) = all-yes xs

swap-four : (a b c d : Bool) → ((a && b) && (c && d)) ≡ ((a && c) && (b && d))
swap-four false b c d = refl
swap-four true false false d = refl
swap-four true false true d = refl
swap-four true true c d = refl

pub all-both : {A : Type 0} (p q : A → Bool) (xs : List A) → list_all (λ x. p x && q x) xs ≡ (list_all p xs && list_all q xs)
all-both p q [] = refl
all-both p q (x ∷ xs) = ap (λ b. (p x && q x) && b) (all-both p q xs) ∙ swap-four (p x) (q x) (list_all p xs) (list_all q xs)

-- ---- those that a filter keeps

pub all-filtered : {A : Type 0} (p q : A → Bool) (xs : List A) → list_all q xs ≡ true → list_all q (filter p xs) ≡ true
all-filtered p q [] e = refl
all-filtered p q (x ∷ xs) e =
    let both = and_parts (q x) (list_all q xs) e in
    by (p x) both.0 (all-filtered p q xs both.1)
  where
    by : (b : Bool) → q x ≡ true → list_all q (filter p xs) ≡ true → list_all q (cond b (x ∷ filter p xs) (filter p xs)) ≡ true
    by true here more = and_from (q x) (list_all q (filter p xs)) here more
    by false here more = more

pub kept-pass : {A : Type 0} (p : A → Bool) (xs : List A) → list_all p (filter p xs) ≡ true
kept-pass p [] = refl
kept-pass p (x ∷ xs) = by (p x) refl (kept-pass p xs)
  where
    by : (b : Bool) → p x ≡ b → list_all p (filter p xs) ≡ true → list_all p (cond b (x ∷ filter p xs) (filter p xs)) ≡ true
    by true is more = and_from (p x) (list_all p (filter p xs)) is more
    by false is more = more

-- where what the filter drops passes anyway
pub all-of-kept : {A : Type 0} (p q : A → Bool) (xs : List A) → ((x : A) → p x ≡ false → q x ≡ true) → list_all q (filter p xs) ≡ list_all q xs
all-of-kept p q [] h = refl
all-of-kept p q (x ∷ xs) h = by (p x) refl (all-of-kept p q xs h)
  where
    by : (b : Bool) → p x ≡ b → list_all q (filter p xs) ≡ list_all q xs → list_all q (cond b (x ∷ filter p xs) (filter p xs)) ≡ (q x && list_all q xs)
    by true is more = ap (λ b. q x && b) more
    by false is more = more ∙ sym (ap (λ b. b && list_all q xs) (h x is))

-- where none fails
pub all-kept : {A : Type 0} (p q : A → Bool) (xs : List A) → ((x : A) → q x ≡ false → p x ≡ true) → list_any q xs ≡ false → filter p xs ≡ xs
all-kept p q [] h e = refl
all-kept p q (x ∷ xs) h e =
    let both = or_parts (q x) (list_any q xs) e in
    ap (λ b. cond b (x ∷ filter p xs) (filter p xs)) (h x both.0) ∙ ap (λ ys. x ∷ ys) (all-kept p q xs h both.1)
