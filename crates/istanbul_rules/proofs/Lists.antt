-- Lists that are walked, each element given by a function.
use Rattle.std.proofs.Common.{◌≡◌, ℕ, ◌+◌, ◌<◌, ◌≤◌, List, [], ◌∷◌, ◌++◌, length, get_or, drop, refl, sym, ap, ◌∙◌, append_assoc, add-one}
use Rattle.std.specs.Prelude.{map}
use Rattle.std.proofs.lemmas.List.{append-nil, drop_all}
use Rattle.std.proofs.Math.Seq.{drop-cons}

-- what is left from place i on begins with the element there
pub rest_from : {A : Type 0} (xs : List A) (i : ℕ) (d : A) → i < length xs → drop i xs ≡ get_or xs i d ∷ drop (i + 1) xs
rest_from xs i d lt = drop-cons xs i d lt ∙ ap (λ n. get_or xs i d ∷ drop n xs) (sym (add-one i))

-- one more element is given
pub walked : {A B : Type 0} (f : A → B) (xs : List A) (i : ℕ) (d : A) (before after all : List B) → i < length xs → after ≡ before ++ f (get_or xs i d) ∷ []
    → before ++ map f (drop i xs) ≡ all → after ++ map f (drop (i + 1) xs) ≡ all
walked f xs i d before after all lt grown so_far =
    ap (λ ys. ys ++ map f (drop (i + 1) xs)) grown
    ∙ append_assoc before (f (get_or xs i d) ∷ []) (map f (drop (i + 1) xs))
    ∙ ap (λ rest. before ++ map f rest) (sym (rest_from xs i d lt))
    ∙ so_far

-- all are given
pub walked_all : {A B : Type 0} (f : A → B) (xs : List A) (i : ℕ) (before all : List B) → length xs ≤ i → before ++ map f (drop i xs) ≡ all → before ≡ all
walked_all f xs i before all ge so_far = sym (append-nil before) ∙ ap (λ rest. before ++ map f rest) (sym (drop_all i xs ge)) ∙ so_far

pub map_map : {A B C : Type 0} (g : B → C) (f : A → B) (xs : List A) → map g (map f xs) ≡ map (λ x. g (f x)) xs
map_map g f [] = refl
map_map g f (x ∷ xs) = ap (λ ys. g (f x) ∷ ys) (map_map g f xs)
