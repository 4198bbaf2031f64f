-- What holds of each element, by recursion on the list.
use Rattle.std.proofs.Common.{ℕ, zero, suc, Bool, true, false, List, [], ◌∷◌, ◌++◌, map, take}
use Rattle.std.specs.Prelude.{cond, filter, flat_map}
use Rattle.std.specs.List.{AllByRecursion}
use Rattle.std.specs.declared.cmp.Ordering.{Ordering}
use Rattle.std.specs.declared.cmp.Ordering.TheVariants.{Less, Equal, Greater}
use Rattle.std.specs.Ordering.{match_ordering}
use Rattle.std.specs.BTreeSet.{insert_key}
use Rattle.cov_text.specs.Listing.{inserted}

pub All-filter : {A : Type 0} (P : A → Type 0) (p : A → Bool) (xs : List A) → AllByRecursion P xs → AllByRecursion P (filter p xs)
All-filter P p [] h = tt
All-filter P p (x ∷ xs) h =
    elim (p x) as (λ b. AllByRecursion P (cond b (x ∷ filter p xs) (filter p xs))) [
      | true ↦ (h.0, All-filter P p xs h.1)
      | false ↦ All-filter P p xs h.1
    ]

pub All-map : {A B : Type 0} (P : A → Type 0) (Q : B → Type 0) (f : A → B) → ((x : A) → P x → Q (f x)) → (xs : List A) → AllByRecursion P xs → AllByRecursion Q (map f xs)
All-map P Q f each [] h = tt
All-map P Q f each (x ∷ xs) h = (each x h.0, All-map P Q f each xs h.1)

pub All-append : {A : Type 0} (P : A → Type 0) (xs ys : List A) → AllByRecursion P xs → AllByRecursion P ys → AllByRecursion P (xs ++ ys)
All-append P [] ys h k = k
All-append P (x ∷ xs) ys h k = (h.0, All-append P xs ys h.1 k)

pub All-flat_map : {A B : Type 0} (P : A → Type 0) (Q : B → Type 0) (g : A → List B) → ((x : A) → P x → AllByRecursion Q (g x)) → (xs : List A) → AllByRecursion P xs → AllByRecursion Q (flat_map g xs)
All-flat_map P Q g each [] h = tt
All-flat_map P Q g each (x ∷ xs) h = All-append Q (g x) (flat_map g xs) (each x h.0) (All-flat_map P Q g each xs h.1)

pub All-every : {A : Type 0} (P : A → Type 0) → ((x : A) → P x) → (xs : List A) → AllByRecursion P xs
All-every P each [] = tt
All-every P each (x ∷ xs) = (each x, All-every P each xs)

pub All-insert_key : {A : Type 0} (P : A → Type 0) (cmp : A → A → Ordering) (xs : List A) (x : A) → AllByRecursion P xs → P x → AllByRecursion P (insert_key cmp xs x)
All-insert_key P cmp [] x h p = (p, tt)
All-insert_key P cmp (y ∷ ys) x h p =
    elim (cmp x y) as (λ o. AllByRecursion P (match_ordering o (x ∷ y ∷ ys) (y ∷ ys) (y ∷ insert_key cmp ys x))) [
      | Less ↦ (p, h)
      | Equal ↦ h
      | Greater ↦ (h.0, All-insert_key P cmp ys x h.1 p)
    ]

pub All-inserted : {A : Type 0} (P : A → Type 0) (cmp : A → A → Ordering) (xs known : List A) → AllByRecursion P known → AllByRecursion P xs → AllByRecursion P (inserted cmp known xs)
All-inserted P cmp [] known k h = k
All-inserted P cmp (x ∷ xs) known k h = All-inserted P cmp xs (insert_key cmp known x) (All-insert_key P cmp known x k h.0) h.1

pub All-push : {A : Type 0} (P : A → Type 0) (xs : List A) (y : A) → AllByRecursion P xs → P y → AllByRecursion P (xs ++ y ∷ [])
All-push P xs y h p = All-append P xs (y ∷ []) h (p, tt)

pub All-take : {A : Type 0} (P : A → Type 0) (n : ℕ) (xs : List A) → AllByRecursion P xs → AllByRecursion P (take n xs)
All-take P zero xs h = tt
All-take P (suc n) [] h = tt
All-take P (suc n) (x ∷ xs) h = (h.0, All-take P n xs h.1)
