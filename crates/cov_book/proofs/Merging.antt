-- Keys put in one after the other.
use Rattle.std.proofs.Common.{◌≡◌, List, [], ◌∷◌, ◌++◌, refl}
use Rattle.std.specs.declared.cmp.Ordering.{Ordering}
use Rattle.std.specs.BTreeSet.{insert_key}
use Rattle.cov_text.specs.Listing.{inserted}

pub inserted-append : {A : Type 0} (cmp : A → A → Ordering) (xs ys known : List A) → inserted cmp known (xs ++ ys) ≡ inserted cmp (inserted cmp known xs) ys
inserted-append cmp [] ys known = refl
inserted-append cmp (x ∷ xs) ys known = inserted-append cmp xs ys (insert_key cmp known x)
