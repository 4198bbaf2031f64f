-- What passes the limit: by the sums of a list, and by its entries.
use Rattle.std.proofs.Common.{◌≡◌, ℕ, zero, suc, ◌+◌, ◌-◌, ◌<◌, ◌≤◌, Bool, true, false, List, [], ◌∷◌, ◌++◌, map, refl, sym, ap, ◌∙◌, subst, arith, inl, inr}
use Rattle.std.specs.Prelude.{Option, None, Some, IsSome, is_some, is_none, option_map, cond, min, find, flat_map, sum_by, nat_lt, nat_le, ◌&&◌}
use Rattle.std.specs.List.{list_all, list_any}
use Rattle.std.specs.Map.{lookup}
use Rattle.std.specs.BTreeMap.{is_at}
use Rattle.std.proofs.lemmas.Bool.{cases_lt}
use Rattle.std.proofs.lemmas.Bool.Decides.{nat_tests}
use Rattle.std.proofs.lemmas.List.Folds.{list_all-append}
use Rattle.cov_model.specs.declared.report.FunctionReport.{FunctionReport}
use Rattle.cov_model.specs.declared.snapshot.Snapshot.{Snapshot}
use Rattle.cov_model.specs.declared.sums.Key.{Key}
use Rattle.cov_model.specs.declared.sums.At.{At}
use Rattle.cov_model.specs.declared.sums.At.TheVariants.{Root, Offset}
use Rattle.cov_model.specs.declared.sums.SumFault.{SumFault}
use Rattle.cov_text.specs.Listing.{counted, offsets}
use Rattle.cov_text.specs.Listing.{limit}
use Rattle.cov_model.specs.Sums.{fits, sum_at, sum_fault, points, root, total, reports, keys_in_order, file_order, same_key}
use Rattle.cov_model.proofs.Fits.{joins_where_it_fits}
use Rattle.cov_model.proofs.Grows.{fits-each}
use Rattle.cov_steps.proofs.Maximal.{count_in-maximal}
use Rattle.cov_book.specs.declared.sums.Sums.{Sums}
use Rattle.cov_book.specs.Counts.{capped, weight, reports_in, passes, first_point, fault_with}
use Rattle.cov_book.specs.Entries.{sums_at, key_sums, entries_of}
use Rattle.cov_book.specs.Prepared.{IsWithin, AreWithin, held_weight, passes_over, with_entries}
use Rattle.cov_book.proofs.Finding.{sum-is}
use Rattle.cov_book.proofs.Having.{absent}
use Rattle.cov_book.proofs.Keyed.{found, entries-more}

-- ---- points

-- the point is one of the key's
abbrev pub IsPoint : Key → At → Type 0
IsPoint key Root = Unit {0}
IsPoint key (Offset o) = (key.start ≤ o) × (o < key.end)

all-counted : (p : At → Bool) (n s : ℕ) → list_all p (map Offset (counted s n)) ≡ true → (o : ℕ) → s ≤ o → o < s + n → p (Offset o) ≡ true
all-counted p zero s h o low high = absurd (omega arith)
all-counted p (suc n) s h o low high =
    let both = and-both (p (Offset s)) (list_all p (map Offset (counted (suc s) n))) h in
    elim (cases_lt s o) [
      | inl past ↦ all-counted p n (suc s) both.1 o (omega arith) (omega arith)
      | inr first ↦ let here : o ≡ s = omega arith in ap (λ x. p (Offset x)) here ∙ both.0
    ]
  where
    and-both : (a b : Bool) → (a && b) ≡ true → (a ≡ true) × (b ≡ true)
    and-both true b e = (refl, e)
    and-both false b e = absurd cc

-- a test of all points of a key
pub all-points : (p : At → Bool) (key : Key) → list_all p (points key) ≡ true → (at : At) → IsPoint key at → p at ≡ true
all-points p key h Root is = by (p Root) h
  where
    by : (b : Bool) → (b && list_all p (map Offset (offsets key.start key.end))) ≡ true → b ≡ true
    by true e = refl
    by false e = absurd cc
all-points p key h (Offset o) is = all-counted p (key.end - key.start) key.start (by (p Root) h) o is.0 (omega (arith, is.0, is.1))
  where
    by : (b : Bool) → (b && list_all p (map Offset (offsets key.start key.end))) ≡ true → list_all p (map Offset (offsets key.start key.end)) ≡ true
    by true e = e
    by false e = absurd cc

each-counted : (p : At → Bool) (n s : ℕ) → ((o : ℕ) → s ≤ o → o < s + n → p (Offset o) ≡ true) → list_all p (map Offset (counted s n)) ≡ true
each-counted p zero s h = refl
each-counted p (suc n) s h =
    ap (λ b. b && list_all p (map Offset (counted (suc s) n))) (h s (omega arith) (omega arith)) ∙ each-counted p n (suc s) (λ o low high. h o (omega arith) (omega arith))

pub each-point : (p : At → Bool) (key : Key) → ((at : At) → IsPoint key at → p at ≡ true) → list_all p (points key) ≡ true
each-point p key h =
    ap (λ b. b && list_all p (map Offset (offsets key.start key.end))) (h Root tt)
    ∙ each-counted p (key.end - key.start) key.start (λ o low high. h (Offset o) (low, omega arith))

find-counted : (p q : At → Bool) (n s : ℕ) → ((o : ℕ) → s ≤ o → o < s + n → p (Offset o) ≡ q (Offset o)) → find p (map Offset (counted s n)) ≡ find q (map Offset (counted s n))
find-counted p q zero s h = refl
find-counted p q (suc n) s h =
    ap (λ b. cond b (Some (Offset s)) (find p (map Offset (counted (suc s) n)))) (h s (omega arith) (omega arith))
    ∙ ap (cond (q (Offset s)) (Some (Offset s))) (find-counted p q n (suc s) (λ o low high. h o (omega arith) (omega arith)))

-- tests that are alike at each point of a key find the same one
pub find-points : (p q : At → Bool) (key : Key) → ((at : At) → IsPoint key at → p at ≡ q at) → find p (points key) ≡ find q (points key)
find-points p q key h =
    ap (λ b. cond b (Some Root) (find p (map Offset (offsets key.start key.end)))) (h Root tt)
    ∙ ap (cond (q Root) (Some Root)) (find-counted p q (key.end - key.start) key.start (λ o low high. h (Offset o) (low, omega arith)))

found-counted : (p : At → Bool) (key : Key) (n s : ℕ) → key.start ≤ s → s + n ≤ key.end → (at : At) → find p (map Offset (counted s n)) ≡ Some at → IsPoint key at
found-counted p key zero s low high at e = absurd cc
found-counted p key (suc n) s low high at e = by (p (Offset s)) e (found-counted p key n (suc s) (omega (arith, low)) (omega (arith, high)) at)
  where
    by : (b : Bool) → cond b (Some (Offset s)) (find p (map Offset (counted (suc s) n))) ≡ Some at
        → (find p (map Offset (counted (suc s) n)) ≡ Some at → IsPoint key at) → IsPoint key at
    by true e rest = let here : Offset s ≡ at = cc in subst (IsPoint key) here (low, omega (arith, high))
    by false e rest = rest e

-- what is found is one of the points
pub found-point : (p : At → Bool) (key : Key) (at : At) → find p (points key) ≡ Some at → IsPoint key at
found-point p key at e = by (p Root) e
  where
    rest : find p (map Offset (offsets key.start key.end)) ≡ Some at → IsPoint key at
    rest e = elim (cases_lt key.start key.end) [
      | inl some ↦ found-counted p key (key.end - key.start) key.start (omega arith) (omega (arith, some)) at e
      | inr empty ↦
          let zero_long : key.end - key.start ≡ 0 = omega (arith, empty) in
          let gone : None ≡ Some at = sym (ap (λ n. find p (map Offset (counted key.start n))) zero_long) ∙ e in
          absurd cc
    ]

    by : (b : Bool) → cond b (Some Root) (find p (map Offset (offsets key.start key.end))) ≡ Some at → IsPoint key at
    by true e = let here : Root ≡ at = cc in subst (IsPoint key) here tt
    by false e = rest e

-- ---- what is held

pub held-sum : (held : List Snapshot) (key : Key) (at : At) → IsPoint key at → held_weight (lookup (is_at (file_order key)) (entries_of held)) at ≡ sum_by (weight at) (reports held key)
unfolding entries_of
held-sum held key at is = ap (λ o. held_weight o at) (found (sums_at held) key (keys_in_order held)) ∙ by (list_any (same_key key) (keys_in_order held)) refl
  where
    there : (at : At) → IsPoint key at → held_weight (Some (sums_at held key)) at ≡ sum_at held key at
    there Root is = refl
    there (Offset o) is = count_in-maximal key.start key.end o (total held key) is.0 is.1

    by : (b : Bool) → list_any (same_key key) (keys_in_order held) ≡ b → held_weight (cond b (Some (sums_at held key)) None) at ≡ sum_by (weight at) (reports held key)
    by true e = there at is ∙ sum-is held key at
    by false e = sym (ap (sum_by (weight at)) (absent held key e))

-- the first point at which what is held and the reports of a key pass the limit
pub first-is : (held : List Snapshot) (snapshot : Snapshot) (key : Key)
    → find (passes_over (lookup (is_at (file_order key)) (entries_of held)) (reports_in key snapshot)) (points key) ≡ first_point held snapshot key (points key)
first-is held snapshot key =
    find-points (passes_over (lookup (is_at (file_order key)) (entries_of held)) (reports_in key snapshot)) (passes (reports held key) (reports_in key snapshot)) key
    (λ at is. ap (λ n. nat_lt limit (n + sum_by (weight at) (reports_in key snapshot))) (held-sum held key at is))

-- ---- entries within the limit, and lists that fit

le-true : (n m : ℕ) → n ≤ m → nat_le n m ≡ true
le-true n m l = grind (arith, nat_tests)

true-le : (n m : ℕ) → nat_le n m ≡ true → n ≤ m
true-le n m e = grind (arith, nat_tests)

fits-sums : (held : List Snapshot) → fits held ≡ true → (key : Key) → IsWithin (sums_at held key)
fits-sums held fit key =
    let each = all-points (λ at. nat_le (sum_at held key at) limit) key (fits-each held fit key) in (
      true-le (root held key) limit (each Root tt),
      λ o low high.
          subst (λ n. n ≤ limit) (sym (count_in-maximal key.start key.end o (total held key) low high)) (true-le (total held key o) limit (each (Offset o) (low, high))),
    )

pub fits-within : (held : List Snapshot) → fits held ≡ true → AreWithin (entries_of held)
unfolding entries_of
fits-within held fit = each (keys_in_order held)
  where
    each : (ks : List Key) → AreWithin (map (key_sums held) ks)
    each [] = tt
    each (k ∷ ks) = (fits-sums held fit k, each ks)

stays-within : List Snapshot → Key × At → Bool
stays-within held at = nat_le (sum_at held at.0 at.1) limit

sums-fit : (held : List Snapshot) (key : Key) → IsWithin (sums_at held key) → list_all (λ at. nat_le (sum_at held key at) limit) (points key) ≡ true
sums-fit held key h = each-point (λ at. nat_le (sum_at held key at) limit) key each
  where
    each : (at : At) → IsPoint key at → nat_le (sum_at held key at) limit ≡ true
    each Root is = le-true (root held key) limit h.0
    each (Offset o) is =
        le-true (total held key o) limit (subst (λ n. n ≤ limit) (count_in-maximal key.start key.end o (total held key) is.0 is.1) (h.1 o is.0 is.1))

at-key : (held : List Snapshot) (key : Key) (ps : List At) → list_all (stays-within held) (map (λ point. (key, point)) ps) ≡ list_all (λ at. nat_le (sum_at held key at) limit) ps
unfolding stays-within
at-key held key [] = refl
at-key held key (p ∷ ps) = ap (λ b. nat_le (sum_at held key p) limit && b) (at-key held key ps)

all-fit : (held : List Snapshot) (ks : List Key) → AreWithin (map (key_sums held) ks) → list_all (stays-within held) (flat_map (λ key. map (λ point. (key, point)) (points key)) ks) ≡ true
all-fit held [] h = refl
all-fit held (k ∷ ks) h =
    let rest = flat_map (λ key. map (λ point. (key, point)) (points key)) ks in
    list_all-append (stays-within held) (map (λ point. (k, point)) (points k)) rest
    ∙ ap (λ b. b && list_all (stays-within held) rest) (at-key held k (points k) ∙ sums-fit held k h.0)
    ∙ all-fit held ks h.1

pub within-fits : (held : List Snapshot) → AreWithin (entries_of held) → fits held ≡ true
unfolding entries_of fits stays-within
within-fits held h = all-fit held (keys_in_order held) h

-- where the sums with a snapshot pass the limit, there is a first one that does
pub some-fault : (held : List Snapshot) (snapshot : Snapshot) → (AreWithin (with_entries (entries_of held) snapshot) → ⊥) → IsSome (sum_fault held snapshot)
some-fault held snapshot past = by (sum_fault held snapshot) refl
  where
    by : (o : Option SumFault) → sum_fault held snapshot ≡ o → is_some o ≡ true
    by (Some fault) e = refl
    by None e =
        let fit : fits (held ++ snapshot ∷ []) ≡ true = sym (joins_where_it_fits held snapshot) ∙ ap is_none e in
        absurd (past (subst AreWithin (sym (entries-more held snapshot)) (fits-within (held ++ snapshot ∷ []) fit)))

-- where they don't, there is none
pub no-fault : (held : List Snapshot) (snapshot : Snapshot) → fits (held ++ snapshot ∷ []) ≡ true → sum_fault held snapshot ≡ None
no-fault held snapshot fit = by (sum_fault held snapshot) (joins_where_it_fits held snapshot ∙ fit)
  where
    by : (o : Option SumFault) → is_none o ≡ true → o ≡ None
    by None e = refl
    by (Some fault) e = absurd cc

-- ---- the fault of a key

pub fault-none : (held : List Snapshot) (snapshot : Snapshot) (key : Key) (before : Option Sums) (new : List FunctionReport)
    → before ≡ lookup (is_at (file_order key)) (entries_of held) → new ≡ reports_in key snapshot → None ≡ find (passes_over before new) (points key)
    → None ≡ option_map (fault_with held snapshot key) (first_point held snapshot key (points key))
fault-none held snapshot key before new old more none =
    ap (option_map (fault_with held snapshot key)) (none ∙ (λ i. find (passes_over (old i) (more i)) (points key)) ∙ first-is held snapshot key)

within-min : (n m : ℕ) → n ≤ m → n ≡ min n m
within-min n m l = omega (arith, l)

pub fault-some : (held : List Snapshot) (snapshot : Snapshot) (key : Key) (before : Option Sums) (new : List FunctionReport) (at : At) (k : Key) (was added : ℕ)
    → before ≡ lookup (is_at (file_order key)) (entries_of held) → new ≡ reports_in key snapshot → Some at ≡ find (passes_over before new) (points key)
    → k ≡ key → was ≡ held_weight before at → was ≤ limit → added ≡ capped (sum_by (weight at) new)
    → Some (record { key = k; at = at; held = was; added = added }) ≡ option_map (fault_with held snapshot key) (first_point held snapshot key (points key))
fault-some held snapshot key before new at k was added old more first same is small adds =
    let here : Some at ≡ first_point held snapshot key (points key) = first ∙ (λ i. find (passes_over (old i) (more i)) (points key)) ∙ first-is held snapshot key in
    let point = found-point (passes_over before new) key at (sym first) in
    let sum : was ≡ sum_by (weight at) (reports held key) = is ∙ ap (λ o. held_weight o at) old ∙ held-sum held key at point in
    let least : was ≡ min (sum_by (weight at) (reports held key)) limit = within-min was limit small ∙ ap (λ n. min n limit) sum in
    let told : added ≡ capped (sum_by (weight at) (reports_in key snapshot)) = adds ∙ ap (λ fs. capped (sum_by (weight at) fs)) more in
    (λ i. Some (record { key = same i; at = at; held = least i; added = told i })) ∙ ap (option_map (fault_with held snapshot key)) here
