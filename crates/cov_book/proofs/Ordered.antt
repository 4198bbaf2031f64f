-- A set in order has the elements that it was made of, and is told by them.
use Rattle.std.proofs.Common.{◌≡◌, ℕ, Bool, true, false, List, [], ◌∷◌, refl, sym, ap, ◌∙◌}
use Rattle.std.specs.Prelude.{◌||◌, ◌&&◌, ◌==◌}
use Rattle.std.specs.List.{AllByRecursion, list_any}
use Rattle.std.specs.List.Sorted.{IsStrictlySortedBy}
use Rattle.std.specs.declared.cmp.Ordering.{Ordering}
use Rattle.std.specs.declared.cmp.Ordering.TheVariants.{Less, Equal, Greater}
use Rattle.std.specs.Ordering.{ordering_then, ordering_reverse, match_ordering, is_eq}
use Rattle.std.specs.Cmp.{IsTotalOrder, both_ways}
use Rattle.std.specs.BTreeSet.{BTreeSet, insert_key}
use Rattle.std.specs.BTreeMap.{is_at}
use Rattle.std.proofs.lemmas.Bool.Decides.{Decides-eqb}
use Rattle.std.proofs.lemmas.Cmp.{tied_itself, nat_cmp_total, nat_list_cmp_total, on_total, then_total, back_total}
use Rattle.std.proofs.lemmas.Map.Lookups.{CmpEqualImpliesEq, btree_set_from_contains, exact_bytes, exact_unsigned}
use Rattle.std.proofs.lemmas.Slice.Eq.{bytes_eq-Decides}
use Rattle.cov_model.specs.declared.sums.Key.{Key}
use Rattle.cov_text.specs.Listing.{inserted, in_order, text_cmp, same_text}
use Rattle.cov_model.specs.Sums.{file_order, same_key}

-- ---- the two orders

pub text_total : IsTotalOrder text_cmp
text_total = nat_list_cmp_total

pub text_exact : CmpEqualImpliesEq text_cmp
text_exact = exact_bytes

pub file_total : IsTotalOrder file_order
file_total =
    then_total (on_total (λ (k : Key). k.url) nat_list_cmp_total)
    (then_total (on_total (λ (k : Key). k.start) nat_cmp_total)
    (then_total (back_total (on_total (λ (k : Key). k.end) nat_cmp_total)) (on_total (λ (k : Key). k.name) nat_list_cmp_total)))

then-equal : (o p : Ordering) → ordering_then o p ≡ Equal → (o ≡ Equal) × (p ≡ Equal)
then-equal Less p e = absurd cc
then-equal Equal p e = (refl, e)
then-equal Greater p e = absurd cc

pub file_exact : CmpEqualImpliesEq file_order
file_exact a b e =
    let p = then-equal _ _ e in
    let q = then-equal _ _ p.1 in
    let r = then-equal _ _ q.1 in
    let url = text_exact a.url b.url p.0 in
    let start = exact_unsigned a.start b.start q.0 in
    let end = sym (exact_unsigned b.end a.end r.0) in
    let name = text_exact a.name b.name r.1 in
    (λ i. record { url = url i; start = start i; end = end i; name = name i })

-- ---- rising lists

All-insert : {A : Type 0} (P : A → Type 0) (cmp : A → A → Ordering) (xs : List A) (x : A) → AllByRecursion P xs → P x → AllByRecursion P (insert_key cmp xs x)
All-insert P cmp [] x h p = (p, tt)
All-insert P cmp (y ∷ ys) x h p =
    elim (cmp x y) as (λ o. AllByRecursion P (match_ordering o (x ∷ y ∷ ys) (y ∷ ys) (y ∷ insert_key cmp ys x))) [
      | Less ↦ (p, h)
      | Equal ↦ h
      | Greater ↦ (h.0, All-insert P cmp ys x h.1 p)
    ]

above : {A : Type 0} (cmp : A → A → Ordering) (total : IsTotalOrder cmp) (x y : A) (ys : List A) → cmp x y ≡ Less → AllByRecursion (λ z. cmp y z ≡ Less) ys → AllByRecursion (λ z. cmp x z ≡ Less) ys
above cmp total x y [] lt h = tt
above cmp total x y (z ∷ zs) lt h = (total.trans x y z lt h.0, above cmp total x y zs lt h.1)

pub sorted-insert : {A : Type 0} (cmp : A → A → Ordering) (total : IsTotalOrder cmp) (xs : List A) (x : A) → IsStrictlySortedBy cmp xs → IsStrictlySortedBy cmp (insert_key cmp xs x)
unfolding IsStrictlySortedBy
sorted-insert cmp total [] x h = (tt, tt)
sorted-insert cmp total (y ∷ ys) x h = by (cmp x y) refl (sorted-insert cmp total ys x h.1)
  where
    by : (o : Ordering) → cmp x y ≡ o → IsStrictlySortedBy cmp (insert_key cmp ys x) → IsStrictlySortedBy cmp (match_ordering o (x ∷ y ∷ ys) (y ∷ ys) (y ∷ insert_key cmp ys x))
    by Less e rest = ((e, above cmp total x y ys e h.0), h)
    by Equal e rest = h
    by Greater e rest = (All-insert (λ z. cmp y z ≡ Less) cmp ys x h.0 (total.antisymm y x ∙ ap ordering_reverse e), rest)

pub sorted-inserted : {A : Type 0} (cmp : A → A → Ordering) (total : IsTotalOrder cmp) (xs known : List A) → IsStrictlySortedBy cmp known → IsStrictlySortedBy cmp (inserted cmp known xs)
sorted-inserted cmp total [] known h = h
sorted-inserted cmp total (x ∷ xs) known h = sorted-inserted cmp total xs (insert_key cmp known x) (sorted-insert cmp total known x h)

pub in_order-sorted : {A : Type 0} (cmp : A → A → Ordering) → IsTotalOrder cmp → (xs : List A) → IsStrictlySortedBy cmp (in_order cmp xs)
unfolding IsStrictlySortedBy
in_order-sorted cmp total xs = sorted-inserted cmp total xs [] tt

-- ---- the same elements

swap-or : (a b c : Bool) → (a || (b || c)) ≡ (b || (a || c))
swap-or true true c = refl
swap-or true false c = refl
swap-or false b c = refl

again-or : (a b : Bool) → (a || b) ≡ (a || (a || b))
again-or true b = refl
again-or false b = refl

assoc-or : (a b c : Bool) → (a || (b || c)) ≡ ((a || b) || c)
assoc-or true b c = refl
assoc-or false b c = refl

or-false : (a : Bool) → (a || false) ≡ a
or-false true = refl
or-false false = refl

any-step : {A : Type 0} (cmp : A → A → Ordering) → CmpEqualImpliesEq cmp → (p : A → Bool) (x k : A) (xs : List A) (o : Ordering) → cmp k x ≡ o
    → list_any p (insert_key cmp xs k) ≡ (p k || list_any p xs)
    → list_any p (match_ordering o (k ∷ x ∷ xs) (x ∷ xs) (x ∷ insert_key cmp xs k)) ≡ (p k || (p x || list_any p xs))
any-step cmp exact p x k xs Less e rest = refl
any-step cmp exact p x k xs Equal e rest = again-or (p x) (list_any p xs) ∙ ap (λ y. p y || (p x || list_any p xs)) (sym (exact k x e))
any-step cmp exact p x k xs Greater e rest = ap (λ b. p x || b) rest ∙ swap-or (p x) (p k) (list_any p xs)

pub any-insert : {A : Type 0} (cmp : A → A → Ordering) → CmpEqualImpliesEq cmp → (p : A → Bool) (ks : List A) (k : A) → list_any p (insert_key cmp ks k) ≡ (p k || list_any p ks)
any-insert cmp exact p [] k = refl
any-insert cmp exact p (x ∷ xs) k = any-step cmp exact p x k xs (cmp k x) refl (any-insert cmp exact p xs k)

pub any-inserted : {A : Type 0} (cmp : A → A → Ordering) → CmpEqualImpliesEq cmp → (p : A → Bool) (xs ks : List A) → list_any p (inserted cmp ks xs) ≡ (list_any p xs || list_any p ks)
any-inserted cmp exact p [] ks = refl
any-inserted cmp exact p (x ∷ xs) ks =
    any-inserted cmp exact p xs (insert_key cmp ks x)
    ∙ ap (λ b. list_any p xs || b) (any-insert cmp exact p ks x)
    ∙ swap-or (list_any p xs) (p x) (list_any p ks)
    ∙ assoc-or (p x) (list_any p xs) (list_any p ks)

pub any-in_order : {A : Type 0} (cmp : A → A → Ordering) → CmpEqualImpliesEq cmp → (p : A → Bool) (xs : List A) → list_any p (in_order cmp xs) ≡ list_any p xs
any-in_order cmp exact p xs = any-inserted cmp exact p xs [] ∙ or-false (list_any p xs)

pub any-each : {A : Type 0} (p q : A → Bool) → ((x : A) → p x ≡ q x) → (xs : List A) → list_any p xs ≡ list_any q xs
any-each p q h [] = refl
any-each p q h (x ∷ xs) = ap (λ b. b || list_any p xs) (h x) ∙ ap (λ b. q x || b) (any-each p q h xs)

pub at-equal : (o : Ordering) → is_eq o ≡ true → o ≡ Equal
at-equal Less e = absurd cc
at-equal Equal e = refl
at-equal Greater e = absurd cc

-- ---- keys by their parts

and-both : (a b : Bool) → (a && b) ≡ true → (a ≡ true) × (b ≡ true)
and-both true b e = (refl, e)
and-both false b e = absurd cc

pub same-is : (a b : Key) → same_key a b ≡ true → a ≡ b
same-is a b e =
    let p = and-both (same_text a.url b.url) (a.start == b.start && (a.end == b.end && same_text a.name b.name)) e in
    let q = and-both (a.start == b.start) (a.end == b.end && same_text a.name b.name) p.1 in
    let r = and-both (a.end == b.end) (same_text a.name b.name) q.1 in
    let url = (bytes_eq-Decides a.url b.url).0 p.0 in
    let start : a.start ≡ b.start = (Decides-eqb a.start b.start).0 q.0 in
    let end : a.end ≡ b.end = (Decides-eqb a.end b.end).0 r.0 in
    let name = (bytes_eq-Decides a.name b.name).0 r.1 in
    (λ i. record { url = url i; start = start i; end = end i; name = name i })

pub is-same : (a b : Key) → a ≡ b → same_key a b ≡ true
is-same a b e =
    let itself : same_key a a ≡ true =
    ap (λ t. t && (a.start == a.start && (a.end == a.end && same_text a.name a.name))) ((bytes_eq-Decides a.url a.url).1 refl)
    ∙ ap (λ t. t && (a.end == a.end && same_text a.name a.name)) ((Decides-eqb a.start a.start).1 refl)
    ∙ ap (λ t. t && same_text a.name a.name) ((Decides-eqb a.end a.end).1 refl)
    ∙ (bytes_eq-Decides a.name a.name).1 refl in
    ap (same_key a) (sym e) ∙ itself

-- ---- told by the tests for one element

in_order-tested : {A : Type 0} (cmp : A → A → Ordering) → IsTotalOrder cmp → CmpEqualImpliesEq cmp → (same : A → A → Bool)
    → ((x y : A) → same x y ≡ true → x ≡ y) → ((x y : A) → x ≡ y → same x y ≡ true)
    → (xs ys : List A) → ((x : A) → list_any (same x) xs ≡ list_any (same x) ys) → in_order cmp xs ≡ in_order cmp ys
in_order-tested {A = A} cmp total exact same to from xs ys has =
    let s : BTreeSet A = record { keys = in_order cmp xs } in
    let t : BTreeSet A = record { keys = in_order cmp ys } in
    let tests : (x y : A) → is_at (cmp x) y ≡ same x y =
    λ x y.
    both_ways (is_at (cmp x) y) (same x y) (λ h. from x y (exact x y (at-equal (cmp x y) h)))
    (λ h. ap is_eq (ap (cmp x) (sym (to x y h)) ∙ tied_itself total x)) in
    let moved : (x : A) (zs : List A) → list_any (is_at (cmp x)) zs ≡ list_any (same x) zs = λ x. any-each (is_at (cmp x)) (same x) (tests x) in
    btree_set_from_contains total s t (in_order-sorted cmp total xs) (in_order-sorted cmp total ys)
    (λ q. any-in_order cmp exact (is_at (cmp q)) xs ∙ moved q xs ∙ has q ∙ sym (moved q ys) ∙ sym (any-in_order cmp exact (is_at (cmp q)) ys)) exact

-- Lists of the same urls are one in order, and so are lists of the same keys.
pub urls-same : (xs ys : List (List ℕ)) → ((url : List ℕ) → list_any (same_text url) xs ≡ list_any (same_text url) ys) → in_order text_cmp xs ≡ in_order text_cmp ys
urls-same xs ys has = in_order-tested text_cmp text_total text_exact same_text (λ x y. (bytes_eq-Decides x y).0) (λ x y. (bytes_eq-Decides x y).1) xs ys has

pub keys-same : (xs ys : List Key) → ((key : Key) → list_any (same_key key) xs ≡ list_any (same_key key) ys) → in_order file_order xs ≡ in_order file_order ys
keys-same xs ys has = in_order-tested file_order file_total file_exact same_key same-is is-same xs ys has
