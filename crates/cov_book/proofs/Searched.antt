-- What a search by halves finds in a list in order.
use Rattle.std.proofs.Common.{◌≡◌, ℕ, zero, suc, ◌<◌, ◌≤◌, Bool, true, false, List, [], ◌∷◌, map, length, take, drop, get_or, refl, sym, ap, ◌∙◌, subst, arith, Bor}
use Rattle.std.specs.List.{AllByRecursion, AllWithin}
use Rattle.std.specs.List.Sorted.{IsStrictlySortedBy, IsPartitionPoint, IsPartitionedBy}
use Rattle.std.specs.declared.cmp.Ordering.{Ordering}
use Rattle.std.specs.declared.cmp.Ordering.TheVariants.{Less, Equal, Greater}
use Rattle.std.specs.Ordering.{is_lt, is_eq, match_ordering, nat_cmp, ordering_then, ordering_reverse}
use Rattle.std.specs.Prelude.{Option, None, Some, option_map, cond, slice_get, is_some}
use Rattle.std.specs.Slice.{IsItemAt}
use Rattle.std.proofs.lemmas.Bool.{ltb-true, ltb-false}
use Rattle.std.proofs.lemmas.Option.{slice_get_past, slice_get_read}
use Rattle.std.specs.List.{insert, slice_set}
use Rattle.std.specs.Cmp.{IsTotalOrder}
use Rattle.std.specs.Map.{keys_of, lookup}
use Rattle.std.specs.BTreeMap.{insert_entry, is_at}
use Rattle.std.proofs.lemmas.Cmp.{tied_itself}
use Rattle.std.proofs.lemmas.Map.{lookup-none}
use Rattle.std.proofs.lemmas.Map.Entries.{none_below_head}
use Rattle.cov_text.specs.Listing.{text_cmp}
use Rattle.cov_model.specs.declared.sums.Key.{Key}
use Rattle.cov_model.specs.Sums.{file_order, same_key}
use Rattle.cov_book.specs.declared.sums.Sums.{Sums}
use Rattle.cov_book.specs.declared.scripts.Function.{Function}
use Rattle.cov_book.specs.Told.{named}
use Rattle.cov_book.specs.Listed.{IsPlace, AreInOrder, bare, bare_key, own, own_list, comes_first, hit}
use Rattle.cov_book.proofs.Keyed.{is-at}
use Rattle.cov_book.proofs.Ordered.{file_total, text_total, same-is}

-- ---- the place

front-from : {A : Type 0} (P : A → Type 0) (xs : List A) (i : ℕ) → AllWithin P xs 0 i → i ≤ length xs → AllByRecursion P (take i xs)
front-from P [] zero h le = tt
front-from P [] (suc i) h le = absurd (omega arith)
front-from P (x ∷ xs) zero h le = tt
front-from P (x ∷ xs) (suc i) h le = (h 0 x (omega arith) (omega arith), front-from P xs i (λ k d low lt. h (suc k) d (omega arith) (omega (arith, lt))) (omega (arith, le)))

all-from : {A : Type 0} (P : A → Type 0) (xs : List A) → AllWithin P xs 0 (length xs) → AllByRecursion P xs
all-from P [] h = tt
all-from P (x ∷ xs) h = (h 0 x (omega arith) (omega arith), all-from P xs (λ k d low lt. h (suc k) d (omega arith) (omega (arith, lt))))

back-from : {A : Type 0} (P : A → Type 0) (xs : List A) (i : ℕ) → AllWithin P xs i (length xs) → AllByRecursion P (drop i xs)
back-from P [] zero h = tt
back-from P [] (suc i) h = tt
back-from P (x ∷ xs) zero h = all-from P (x ∷ xs) h
back-from P (x ∷ xs) (suc i) h = back-from P xs i (λ k d low lt. h (suc k) d (omega (arith, low)) (omega (arith, lt)))

pub place : {A : Type 0} (p : A → Bool) (xs : List A) (i : ℕ) → IsPartitionPoint (λ x. p x ≡ true) (λ x. p x ≡ false) xs i → i ≤ length xs → IsPlace p xs i
place p xs i h le = record { front = front-from (λ x. p x ≡ true) xs i h.0 le; back = back-from (λ x. p x ≡ false) xs i h.1; within = le }

-- what `get` gives
pub item-at : {X : Type 0} (xs : List X) (k : ℕ) (r : Option (Bor X)) → IsItemAt xs k r → slice_get xs k ≡ option_map (λ (x : Bor X). x.now) r
item-at xs k None is = slice_get_past xs k (ltb-false k (length xs) (sym is.0))
item-at xs k (Some x) is = slice_get_read xs (length xs) k x.now refl (ltb-true k (length xs) (sym is.0)) is.1

-- ---- in a list in order those before a key come first

pub is-less : (o : Ordering) → is_lt o ≡ true → o ≡ Less
is-less Less e = refl
is-less Equal e = absurd cc
is-less Greater e = absurd cc

all-at : {A K : Type 0} (P : K → Type 0) (key : A → K) (xs : List A) (j : ℕ) (d : A) → AllByRecursion P (map key xs) → j < length xs → P (key (get_or xs j d))
all-at P key [] j d h lt = absurd (omega arith)
all-at P key (x ∷ xs) zero d h lt = h.0
all-at P key (x ∷ xs) (suc j) d h lt = all-at P key xs j d h.1 (omega (arith, lt))

pub parted : {A K : Type 0} (cmp : K → K → Ordering) → IsTotalOrder cmp → (key : A → K) (k : K) (xs : List A) → IsStrictlySortedBy cmp (map key xs) → IsPartitionedBy (λ x. is_lt (cmp (key x) k)) xs
unfolding IsStrictlySortedBy
parted cmp total key k [] s i j d le lt e = absurd (omega arith)
parted cmp total key k (x ∷ xs) s zero zero d le lt e = e
parted cmp total key k (x ∷ xs) s (suc i) zero d le lt e = absurd (omega arith)
parted cmp total key k (x ∷ xs) s zero (suc j) d le lt e =
    ap is_lt (total.trans (key x) (key (get_or xs j d)) k (all-at (λ y. cmp (key x) y ≡ Less) key xs j d s.0 (omega (arith, lt))) (is-less (cmp (key (get_or xs j d)) k) e))
parted cmp total key k (x ∷ xs) s (suc i) (suc j) d le lt e = parted cmp total key k xs s.1 i j d (omega (arith, le)) (omega (arith, lt)) e

-- ---- functions of one script

pub keys-bare : (fs : List Function) → keys_of (bare fs) ≡ map bare_key fs
keys-bare [] = refl
keys-bare (f ∷ fs) = ap (λ ks. bare_key f ∷ ks) (keys-bare fs)

pub function-parted : (k : Key) (fs : List Function) → AreInOrder fs → IsPartitionedBy (comes_first k) fs
function-parted k fs s = parted file_order file_total bare_key k fs (subst (IsStrictlySortedBy file_order) (keys-bare fs) s)

greater : (a b : Key) → is_lt (file_order a b) ≡ true → file_order b a ≡ Greater
greater a b e = file_total.antisymm b a ∙ ap ordering_reverse (is-less (file_order a b) e)

less : (a b : Key) → is_lt (file_order b a) ≡ false → same_key a b ≡ false → file_order a b ≡ Less
less a b e other = by (file_order a b) refl
  where
    by : (o : Ordering) → file_order a b ≡ o → o ≡ Less
    by Less is = refl
    by Equal is = let here = sym (is-at a b) ∙ ap is_eq is in let never : true ≡ false = sym here ∙ other in absurd cc
    by Greater is = let here = file_total.antisymm b a ∙ ap ordering_reverse is in let never : true ≡ false = sym (ap is_lt here) ∙ e in absurd cc

pub found-place : (k : Key) (fs : List Function) (i : ℕ) → AreInOrder fs → AllByRecursion (λ f. comes_first k f ≡ true) (take i fs) → AllByRecursion (λ f. comes_first k f ≡ false) (drop i fs)
    → lookup (is_at (file_order k)) (bare fs) ≡ hit k (slice_get fs i)
unfolding IsStrictlySortedBy
found-place k [] zero s front back = refl
found-place k [] (suc i) s front back = refl
found-place k (f ∷ fs) zero s front back = by (same_key k (bare_key f)) refl
  where
    by : (b : Bool) → same_key k (bare_key f) ≡ b → lookup (is_at (file_order k)) (bare (f ∷ fs)) ≡ cond b (Some f.sums) None
    by true e = ap (λ b. cond b (Some f.sums) (lookup (is_at (file_order k)) (bare fs))) (is-at k (bare_key f) ∙ e)
    by false e = lookup-none (is_at (file_order k)) (bare (f ∷ fs)) (none_below_head file_total k (own [] f) (bare fs) s (less k (bare_key f) back.0 e))
found-place k (f ∷ fs) (suc i) s front back =
    ap (λ o. cond (is_eq o) (Some f.sums) (lookup (is_at (file_order k)) (bare fs))) (greater (bare_key f) k front.0) ∙ found-place k fs i s.1 front.1 back

-- a function put in at the place of its key
pub put-gap : (g : Function) (fs : List Function) (i : ℕ) → AllByRecursion (λ f. comes_first (bare_key g) f ≡ true) (take i fs) → AllByRecursion (λ f. comes_first (bare_key g) f ≡ false) (drop i fs)
    → is_some (hit (bare_key g) (slice_get fs i)) ≡ false → bare (insert fs i g) ≡ insert_entry file_order (bare fs) (bare_key g) g.sums
put-gap g [] zero front back none = refl
put-gap g [] (suc i) front back none = refl
put-gap g (f ∷ fs) zero front back none = by (same_key (bare_key g) (bare_key f)) refl none
  where
    by : (b : Bool) → same_key (bare_key g) (bare_key f) ≡ b → is_some (cond b (Some f.sums) None) ≡ false → bare (insert (f ∷ fs) 0 g) ≡ insert_entry file_order (bare (f ∷ fs)) (bare_key g) g.sums
    by true e none = absurd cc
    by false e none = sym (ap (λ o. match_ordering o (own [] g ∷ bare (f ∷ fs)) ((bare_key f, g.sums) ∷ bare fs) (own [] f ∷ insert_entry file_order (bare fs) (bare_key g) g.sums)) (less (bare_key g) (bare_key f) back.0 e))
put-gap g (f ∷ fs) (suc i) front back none =
    ap (λ es. own [] f ∷ es) (put-gap g fs i front.1 back none)
    ∙ sym (ap (λ o. match_ordering o (own [] g ∷ bare (f ∷ fs)) ((bare_key f, g.sums) ∷ bare fs) (own [] f ∷ insert_entry file_order (bare fs) (bare_key g) g.sums)) (greater (bare_key f) (bare_key g) front.0))

-- and in the place of the one of this key
pub put-there : (g : Function) (fs : List Function) (i : ℕ) → AllByRecursion (λ f. comes_first (bare_key g) f ≡ true) (take i fs)
    → is_some (hit (bare_key g) (slice_get fs i)) ≡ true → bare (slice_set fs i g) ≡ insert_entry file_order (bare fs) (bare_key g) g.sums
put-there g [] zero front here = absurd cc
put-there g [] (suc i) front here = absurd cc
put-there g (f ∷ fs) zero front here =
    let same : bare_key g ≡ bare_key f = same-is (bare_key g) (bare_key f) (by (same_key (bare_key g) (bare_key f)) here) in
    let tie : file_order (bare_key g) (bare_key f) ≡ Equal = ap (λ k. file_order k (bare_key f)) same ∙ tied_itself file_total (bare_key f) in
    (λ i. (same i, g.sums) ∷ bare fs)
    ∙ sym (ap (λ o. match_ordering o (own [] g ∷ bare (f ∷ fs)) ((bare_key f, g.sums) ∷ bare fs) (own [] f ∷ insert_entry file_order (bare fs) (bare_key g) g.sums)) tie)
  where
    by : (b : Bool) → is_some (cond b (Some f.sums) None) ≡ true → b ≡ true
    by true e = refl
    by false e = absurd cc
put-there g (f ∷ fs) (suc i) front here =
    ap (λ es. own [] f ∷ es) (put-there g fs i front.1 here)
    ∙ sym (ap (λ o. match_ordering o (own [] g ∷ bare (f ∷ fs)) ((bare_key f, g.sums) ∷ bare fs) (own [] f ∷ insert_entry file_order (bare fs) (bare_key g) g.sums)) (greater (bare_key f) (bare_key g) front.0))

-- ---- by keys of a url

pub order-own : (url : List ℕ) (s e : ℕ) (n : List ℕ) (f : Function) → file_order (named url s e n) (own url f).0 ≡ file_order (named [] s e n) (bare_key f)
order-own url s e n f =
    ap (λ o. ordering_then o (ordering_then (nat_cmp s f.start) (ordering_then (nat_cmp f.end e) (text_cmp n f.name)))) (tied_itself text_total url)

pub lookup-own : (url : List ℕ) (s e : ℕ) (n : List ℕ) (fs : List Function)
    → lookup (is_at (file_order (named url s e n))) (own_list url fs) ≡ lookup (is_at (file_order (named [] s e n))) (bare fs)
lookup-own url s e n [] = refl
lookup-own url s e n (f ∷ fs) = (λ i. cond (is_eq (order-own url s e n f i)) (Some f.sums) (lookup-own url s e n fs i))

pub insert-own : (url : List ℕ) (g : Function) (fs : List Function) → (gs : List Function) → bare gs ≡ insert_entry file_order (bare fs) (bare_key g) g.sums
    → own_list url gs ≡ insert_entry file_order (own_list url fs) (own url g).0 g.sums
insert-own url g fs gs is = from gs ∙ ap (map (under url)) is ∙ sides fs ∙ ap (λ es. insert_entry file_order es (own url g).0 g.sums) (sym (from fs))
  where
    under : List ℕ → Key × Sums → Key × Sums
    under url e = (named url e.0.start e.0.end e.0.name, e.1)

    from : (fs : List Function) → own_list url fs ≡ map (under url) (bare fs)
    from [] = refl
    from (f ∷ fs) = ap (λ es. own url f ∷ es) (from fs)

    sides : (fs : List Function) → map (under url) (insert_entry file_order (bare fs) (bare_key g) g.sums) ≡ insert_entry file_order (map (under url) (bare fs)) (own url g).0 g.sums
    sides [] = refl
    sides (f ∷ fs) =
        each (file_order (bare_key g) (bare_key f)) (sides fs)
        ∙ sym (ap (λ o. match_ordering o (own url g ∷ own url f ∷ map (under url) (bare fs)) (((own url f).0, g.sums) ∷ map (under url) (bare fs)) (own url f ∷ insert_entry file_order (map (under url) (bare fs)) (own url g).0 g.sums)) (order-own url g.start g.end g.name f))
      where
        each : (o : Ordering) → map (under url) (insert_entry file_order (bare fs) (bare_key g) g.sums) ≡ insert_entry file_order (map (under url) (bare fs)) (own url g).0 g.sums
            → map (under url) (match_ordering o (own [] g ∷ own [] f ∷ bare fs) ((bare_key f, g.sums) ∷ bare fs) (own [] f ∷ insert_entry file_order (bare fs) (bare_key g) g.sums))
            ≡ match_ordering o (own url g ∷ own url f ∷ map (under url) (bare fs)) (((own url f).0, g.sums) ∷ map (under url) (bare fs)) (own url f ∷ insert_entry file_order (map (under url) (bare fs)) (own url g).0 g.sums)
        each Less rest = refl
        each Equal rest = refl
        each Greater rest = ap (λ es. own url f ∷ es) rest

pub hit-within : (k : Key) (fs : List Function) (i : ℕ) → is_some (hit k (slice_get fs i)) ≡ true → i < length fs
hit-within k [] zero e = absurd cc
hit-within k [] (suc i) e = absurd cc
hit-within k (f ∷ fs) zero e = omega arith
hit-within k (f ∷ fs) (suc i) e = let lt = hit-within k fs i e in omega (arith, lt)
