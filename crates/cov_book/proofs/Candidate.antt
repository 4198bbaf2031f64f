-- The least key of which a sum passes the limit, with one report more.
use Rattle.std.proofs.Common.{◌≡◌, ℕ, ◌+◌, ◌≤◌, length, Bool, true, false, List, [], ◌∷◌, ◌++◌, refl, sym, ap, ◌∙◌, subst, arith}
use Rattle.std.specs.Prelude.{Option, None, Some, cond, find, not, ◌&&◌, ◌||◌, option_map, nat_lt, sum_by}
use Rattle.std.specs.List.{AllByRecursion, list_all, list_any}
use Rattle.std.specs.List.Sorted.{IsStrictlySortedBy}
use Rattle.std.specs.declared.cmp.Ordering.{Ordering}
use Rattle.std.specs.declared.cmp.Ordering.TheVariants.{Less, Equal, Greater}
use Rattle.std.specs.Ordering.{is_eq, is_lt, ordering_reverse}
use Rattle.std.specs.Map.{lookup}
use Rattle.std.specs.BTreeMap.{insert_entry, is_at}
use Rattle.std.proofs.lemmas.Bool.{le-ltb}
use Rattle.std.proofs.lemmas.Bool.Decides.{nat_tests}
use Rattle.std.proofs.lemmas.Cmp.{tied_itself}
use Rattle.cov_model.specs.declared.report.FunctionReport.{FunctionReport}
use Rattle.cov_model.specs.declared.snapshot.Snapshot.{Snapshot}
use Rattle.cov_model.specs.declared.sums.Key.{Key}
use Rattle.cov_model.specs.declared.sums.At.{At}
use Rattle.cov_model.specs.declared.sums.At.TheVariants.{Root, Offset}
use Rattle.cov_model.specs.declared.sums.SumFault.{SumFault}
use Rattle.cov_text.specs.Listing.{limit}
use Rattle.cov_model.specs.Nesting.{or_else}
use Rattle.cov_model.specs.Sums.{fits, key_of, keys, keys_in_order, file_order, same_key, points, reports, total, sum_at, sum_fault}
use Rattle.cov_steps.proofs.Maximal.{count_in-maximal}
use Rattle.cov_book.specs.declared.sums.Sums.{Sums}
use Rattle.cov_book.specs.Counts.{weight, reports_in, passes, first_point, fault_with}
use Rattle.cov_book.specs.Entries.{sums_at, entries_of}
use Rattle.cov_book.specs.Spent.{for_report, own_runs, runs_at}
use Rattle.cov_book.specs.Prepared.{report_runs, report_sums, runs_held, summed, with_key, with_report, IsWithin, AreKept, AreWithin, ArePrepared, sums_now, with_entries}
use Rattle.cov_book.specs.Least.{comes_before, IfWithin, IsPastAt, IsLeastPast, IsLeastSoFar}
use Rattle.cov_book.proofs.Costs.{report-cost, report-grows}
use Rattle.cov_book.proofs.Finding.{first_sum, fault-is, both-is, sum-is}
use Rattle.cov_book.proofs.Having.{absent}
use Rattle.cov_book.proofs.Keyed.{found, is-at, entries-more}
use Rattle.cov_book.proofs.Ordered.{file_total, file_exact, at-equal, in_order-sorted}
use Rattle.cov_book.proofs.Passing.{IsPoint, all-points, find-points}
use Rattle.cov_book.proofs.Preparing.{at-flip, found-put, prepared-report}
use Rattle.cov_book.proofs.Within.{held-within}

-- ---- keys before and behind

less-not-equal : (o : Ordering) → is_lt o ≡ true → is_eq o ≡ false
less-not-equal Less e = refl
less-not-equal Equal e = absurd cc
less-not-equal Greater e = absurd cc

is-less : (o : Ordering) → is_lt o ≡ true → o ≡ Less
is-less Less e = refl
is-less Equal e = absurd cc
is-less Greater e = absurd cc

-- a key that comes before the least isn't one that doesn't
apart : (k q : Key) (least : Option Key) → comes_before q least ≡ true → comes_before k least ≡ false → is_at (file_order k) q ≡ false
apart k q least front behind = by (is_at (file_order k) q) refl
  where
    by : (b : Bool) → is_at (file_order k) q ≡ b → b ≡ false
    by false e = refl
    by true e =
        let here : k ≡ q = file_exact k q (at-equal (file_order k q) e) in
        let never : true ≡ false = sym front ∙ ap (λ x. comes_before x least) (sym here) ∙ behind in
        absurd cc

earlier : (q k : Key) (least : Option Key) → comes_before q (Some k) ≡ true → comes_before k least ≡ true → comes_before q least ≡ true
earlier q k None one other = refl
earlier q k (Some c) one other = ap is_lt (file_total.trans q k c (is-less (file_order q k) one) (is-less (file_order k c) other))

-- ---- what one report more changes

abbrev with_added : List (Key × Sums) → Key → Sums → List (Key × Sums)
with_added all k added = insert_entry file_order all k (summed (lookup (is_at (file_order k)) all) added)

found-other : (all : List (Key × Sums)) (k q : Key) (added : Sums) → is_at (file_order k) q ≡ false → lookup (is_at (file_order q)) (with_added all k added) ≡ lookup (is_at (file_order q)) all
found-other all k q added other =
    let v = summed (lookup (is_at (file_order k)) all) added in
    found-put all k v q ∙ ap (λ b. cond b (Some v) (lookup (is_at (file_order q)) all)) other

summed-within : (o : Option Sums) (added : Sums) → IsWithin (summed o added) → IfWithin o
summed-within None added h = tt
summed-within (Some a) added h = held-within a added h

less-at : (all : List (Key × Sums)) (k : Key) (added : Sums) (c : Key) → IfWithin (lookup (is_at (file_order c)) (with_added all k added)) → IfWithin (lookup (is_at (file_order c)) all)
less-at all k added c h =
    let v = summed (lookup (is_at (file_order k)) all) added in
    by (is_at (file_order k) c) refl (subst IfWithin (found-put all k v c) h)
  where
    by : (b : Bool) → is_at (file_order k) c ≡ b → IfWithin (cond b (Some (summed (lookup (is_at (file_order k)) all) added)) (lookup (is_at (file_order c)) all))
        → IfWithin (lookup (is_at (file_order c)) all)
    by true e h =
        let here : k ≡ c = file_exact k c (at-equal (file_order k c) e) in
        subst (λ x. IfWithin (lookup (is_at (file_order x)) all)) here (summed-within (lookup (is_at (file_order k)) all) added h)
    by false e h = h

still-past : (all : List (Key × Sums)) (k : Key) (added : Sums) (least : Option Key) → IsPastAt all least → IsPastAt (with_added all k added) least
still-past all k added None past = tt
still-past all k added (Some c) past = λ h. past (less-at all k added c h)

pub least-start : (entries : List (Key × Sums)) → AreKept entries → IsLeastSoFar entries (λ key. lookup (is_at (file_order key)) entries) [] None
least-start entries kept = record {
  known = entries;
  prepared = record { kept = kept; now = λ key. refl };
  same = λ q front. refl;
  past = tt;
}

pub least-none : (all : List (Key × Sums)) (functions : Key → Option Sums) (changed : List (Key × Sums)) (least : Option Key) (url : List ℕ) (f : FunctionReport)
    → IsLeastSoFar all functions changed least → key_of url f ≡ None → IsLeastSoFar (with_report all url f) functions changed least
least-none all functions changed least url f before none = subst (λ o. IsLeastSoFar (with_key all f o) functions changed least) (sym none) before

pub least-skipped : (all : List (Key × Sums)) (functions : Key → Option Sums) (changed : List (Key × Sums)) (least : Option Key) (url : List ℕ) (f : FunctionReport) (k : Key)
    → IsLeastSoFar all functions changed least → key_of url f ≡ Some k → comes_before k least ≡ false → IsLeastSoFar (with_report all url f) functions changed least
least-skipped all functions changed least url f k before named behind =
    subst (λ o. IsLeastSoFar (with_key all f o) functions changed least) (sym named) (record {
      known = before.known;
      prepared = before.prepared;
      same = λ q front. found-other all k q (report_sums f) (apart k q least front behind) ∙ before.same q front;
      past = still-past all k (report_sums f) least before.past;
    })

pub least-added : (all : List (Key × Sums)) (functions : Key → Option Sums) (changed next : List (Key × Sums)) (least : Option Key) (url : List ℕ) (f : FunctionReport) (k : Key) (v : Sums)
    → IsLeastSoFar all functions changed least → key_of url f ≡ Some k → comes_before k least ≡ true
    → IsWithin v → v ≡ summed (sums_now functions changed k) (report_sums f)
    → ((q : Key) → lookup (is_at (file_order q)) next ≡ cond (is_at (file_order k) q) (Some v) (lookup (is_at (file_order q)) changed))
    → IsLeastSoFar (with_report all url f) functions next least
least-added all functions changed next least url f k v before named front within is put =
    subst (λ o. IsLeastSoFar (with_key all f o) functions next least) (sym named) (record {
      known = with_key before.known f (Some k);
      prepared = subst (λ o. ArePrepared (with_key before.known f o) functions next) named (prepared-report before.known functions changed next url f k v before.prepared named within is put);
      same = λ q here.
          let one = summed (lookup (is_at (file_order k)) all) (report_sums f) in
          let other = summed (lookup (is_at (file_order k)) before.known) (report_sums f) in
          found-put all k one q
          ∙ (λ i. cond (is_at (file_order k) q) (Some (summed (before.same k front i) (report_sums f))) (before.same q here i))
          ∙ sym (found-put before.known k other q);
      past = still-past all k (report_sums f) least before.past;
    })

pub least-found : (all : List (Key × Sums)) (functions : Key → Option Sums) (changed : List (Key × Sums)) (least : Option Key) (url : List ℕ) (f : FunctionReport) (k : Key)
    → IsLeastSoFar all functions changed least → key_of url f ≡ Some k → comes_before k least ≡ true
    → (IsWithin (summed (sums_now functions changed k) (report_sums f)) → ⊥) → IsLeastSoFar (with_report all url f) functions changed (Some k)
least-found all functions changed least url f k before named front past =
    let v = summed (lookup (is_at (file_order k)) all) (report_sums f) in
    subst (λ o. IsLeastSoFar (with_key all f o) functions changed (Some k)) (sym named) (record {
      known = before.known;
      prepared = before.prepared;
      same = λ q here.
          found-other all k q (report_sums f) (at-flip k q ∙ less-not-equal (file_order q k) here) ∙ before.same q (earlier q k least here front);
      past = λ h.
          let own : lookup (is_at (file_order k)) (with_added all k (report_sums f)) ≡ Some v =
          found-put all k v k ∙ ap (λ o. cond (is_eq o) (Some v) (lookup (is_at (file_order k)) all)) (tied_itself file_total k) in
          let is : lookup (is_at (file_order k)) all ≡ sums_now functions changed k = before.same k front ∙ before.prepared.now k in
          past (subst (λ o. IsWithin (summed o (report_sums f))) is (subst IfWithin own h));
    })

pub lookup-within : (es : List (Key × Sums)) (k : Key) → AreWithin es → IfWithin (lookup (is_at (file_order k)) es)
lookup-within [] k h = tt
lookup-within (e ∷ es) k h =
    let rest = lookup-within es k h.1 in
    elim (is_at (file_order k) e.0) as (λ b. IfWithin (cond b (Some e.1) (lookup (is_at (file_order k)) es))) [
      | true ↦ h.0
      | false ↦ rest
    ]

pub least-done : (all : List (Key × Sums)) (functions : Key → Option Sums) (changed : List (Key × Sums)) (least : Option Key) → IsLeastSoFar all functions changed least → IsLeastPast all least
least-done all functions changed least so_far = record {
  below = λ q front. subst IfWithin (sym (so_far.same q front)) (lookup-within so_far.known q so_far.prepared.kept.within);
  past = so_far.past;
}

-- ---- the first sum past the limit

-- no point of a key within the limit passes it
at-most : (both : List Snapshot) (key : Key) → IfWithin (lookup (is_at (file_order key)) (entries_of both)) → (at : At) → IsPoint key at → sum_at both key at ≤ limit
unfolding entries_of
at-most both key h at is = by (list_any (same_key key) (keys_in_order both)) refl (subst IfWithin (found (sums_at both) key (keys_in_order both)) h)
  where
    there : (at : At) → IsPoint key at → IsWithin (sums_at both key) → sum_at both key at ≤ limit
    there Root is w = w.0
    there (Offset o) is w = subst (λ n. n ≤ limit) (count_in-maximal key.start key.end o (total both key) is.0 is.1) (w.1 o is.0 is.1)

    by : (b : Bool) → list_any (same_key key) (keys_in_order both) ≡ b → IfWithin (cond b (Some (sums_at both key)) None) → sum_at both key at ≤ limit
    by true e w = there at is w
    by false e w = let none = sum-is both key at ∙ ap (sum_by (weight at)) (absent both key e) in omega (arith, none)

never : (ps : List At) → find (λ at. false) ps ≡ None
never [] = refl
never (p ∷ ps) = never ps

none-first : (held : List Snapshot) (snapshot : Snapshot) (key : Key) → IfWithin (lookup (is_at (file_order key)) (entries_of (held ++ snapshot ∷ []))) → first_point held snapshot key (points key) ≡ None
none-first held snapshot key h =
    find-points (passes (reports held key) (reports_in key snapshot)) (λ at. false) key
    (λ at is. ap (nat_lt limit) (sym (both-is held snapshot key at)) ∙ le-ltb limit (sum_at (held ++ snapshot ∷ []) key at) (at-most (held ++ snapshot ∷ []) key h at is))
    ∙ never (points key)

all-fail : (p : At → Bool) (ps : List At) → find p ps ≡ None → list_all (λ at. not (p at)) ps ≡ true
all-fail p [] e = refl
all-fail p (x ∷ xs) e = by (p x) e (all-fail p xs)
  where
    by : (b : Bool) → cond b (Some x) (find p xs) ≡ None → (find p xs ≡ None → list_all (λ at. not (p at)) xs ≡ true) → (not b && list_all (λ at. not (p at)) xs) ≡ true
    by true e rest = absurd cc
    by false e rest = rest e

fails : (b : Bool) → not b ≡ true → b ≡ false
fails true e = absurd cc
fails false e = refl

-- a key past the limit has a first point, and is one of the keys
some-first : (held : List Snapshot) (snapshot : Snapshot) (key : Key) → (IfWithin (lookup (is_at (file_order key)) (entries_of (held ++ snapshot ∷ []))) → ⊥)
    → (list_any (same_key key) (keys_in_order (held ++ snapshot ∷ [])) ≡ true) × (first_point held snapshot key (points key) ≡ None → ⊥)
unfolding entries_of
some-first held snapshot key past = by (list_any (same_key key) (keys_in_order both)) refl
  where
    both : List Snapshot
    both = held ++ snapshot ∷ []

    there : (b : Bool) → list_any (same_key key) (keys_in_order both) ≡ b → IfWithin (cond b (Some (sums_at both key)) None) → ⊥
    there b e w = past (subst IfWithin (sym (found (sums_at both) key (keys_in_order both) ∙ ap (λ c. cond c (Some (sums_at both key)) None) e)) w)

    small : (n : ℕ) → nat_lt limit n ≡ false → n ≤ limit
    small n e = grind (arith, nat_tests)

    none-past : first_point held snapshot key (points key) ≡ None → (at : At) → IsPoint key at → sum_at both key at ≤ limit
    none-past none at is =
        small (sum_at both key at) (ap (nat_lt limit) (both-is held snapshot key at) ∙ fails (passes (reports held key) (reports_in key snapshot) at) (all-points (λ p. not (passes (reports held key) (reports_in key snapshot) p)) key (all-fail (passes (reports held key) (reports_in key snapshot)) (points key) none) at is))

    by : (b : Bool) → list_any (same_key key) (keys_in_order both) ≡ b → (list_any (same_key key) (keys_in_order both) ≡ true) × (first_point held snapshot key (points key) ≡ None → ⊥)
    by false e = absurd (there false e tt)
    by true e = (
      e,
      λ none.
          there true e (
            none-past none Root tt,
            λ o low high. subst (λ n. n ≤ limit) (sym (count_in-maximal key.start key.end o (total both key) low high)) (none-past none (Offset o) (low, high)),
          ),
    )

none-behind : (c : Key) (ks : List Key) → AllByRecursion (λ y. file_order c y ≡ Less) ks → list_any (same_key c) ks ≡ false
none-behind c [] h = refl
none-behind c (k ∷ ks) h = ap (λ b. b || list_any (same_key c) ks) (sym (is-at c k) ∙ ap is_eq h.0) ∙ none-behind c ks h.1

all-behind : (c k : Key) (ks : List Key) → file_order c k ≡ Less → AllByRecursion (λ y. file_order k y ≡ Less) ks → AllByRecursion (λ y. file_order c y ≡ Less) ks
all-behind c k [] lt h = tt
all-behind c k (y ∷ ys) lt h = (file_total.trans c k y lt h.0, all-behind c k ys lt h.1)

first-is-least : (held : List Snapshot) (snapshot : Snapshot) (c : Key) (at : At) (ks : List Key) → IsStrictlySortedBy file_order ks → list_any (same_key c) ks ≡ true
    → ((q : Key) → comes_before q (Some c) ≡ true → first_point held snapshot q (points q) ≡ None) → first_point held snapshot c (points c) ≡ Some at
    → first_sum held snapshot ks ≡ option_map (fault_with held snapshot c) (first_point held snapshot c (points c))
unfolding IsStrictlySortedBy
first-is-least held snapshot c at [] sorts there none some = absurd cc
first-is-least held snapshot c at (k ∷ ks) sorts there none some = by (file_order k c) refl (λ rest. first-is-least held snapshot c at ks sorts.1 rest none some)
  where
    told : Key → Option SumFault
    told key = option_map (fault_with held snapshot key) (first_point held snapshot key (points key))

    by : (o : Ordering) → file_order k c ≡ o → (list_any (same_key c) ks ≡ true → first_sum held snapshot ks ≡ told c) → or_else (told k) (first_sum held snapshot ks) ≡ told c
    by Less e rest =
        let other : same_key c k ≡ false = sym (is-at c k) ∙ at-flip c k ∙ ap is_eq e in
        ap (λ o. or_else (option_map (fault_with held snapshot k) o) (first_sum held snapshot ks)) (none k (ap is_lt e))
        ∙ rest (sym (ap (λ b. b || list_any (same_key c) ks) other) ∙ there)
    by Equal e rest =
        let here : k ≡ c = file_exact k c e in
        ap (λ key. or_else (told key) (first_sum held snapshot ks)) here
        ∙ ap (λ o. or_else (option_map (fault_with held snapshot c) o) (first_sum held snapshot ks)) some
        ∙ sym (ap (option_map (fault_with held snapshot c)) some)
    by Greater e rest =
        let lt : file_order c k ≡ Less = file_total.antisymm c k ∙ ap ordering_reverse e in
        let never = none-behind c (k ∷ ks) (lt, all-behind c k ks lt sorts.0) in
        let wrong : true ≡ false = sym there ∙ never in
        absurd cc

-- the fault is that of the least key past the limit
pub least-fault : (held : List Snapshot) (snapshot : Snapshot) (entries : List (Key × Sums)) (c : Key) → entries ≡ entries_of held → fits held ≡ true
    → IsLeastPast (with_entries entries snapshot) (Some c) → sum_fault held snapshot ≡ option_map (fault_with held snapshot c) (first_point held snapshot c (points c))
least-fault held snapshot entries c are fit least =
    let both = held ++ snapshot ∷ [] in
    let all : with_entries entries snapshot ≡ entries_of both = ap (λ es. with_entries es snapshot) are ∙ entries-more held snapshot in
    let some = some-first held snapshot c (λ w. least.past (subst (λ es. IfWithin (lookup (is_at (file_order c)) es)) (sym all) w)) in
    fault-is held snapshot fit
    ∙ by all some (first_point held snapshot c (points c)) refl
  where
    by : with_entries entries snapshot ≡ entries_of (held ++ snapshot ∷ [])
        → (list_any (same_key c) (keys_in_order (held ++ snapshot ∷ [])) ≡ true) × (first_point held snapshot c (points c) ≡ None → ⊥)
        → (o : Option At) → first_point held snapshot c (points c) ≡ o
        → first_sum held snapshot (keys_in_order (held ++ snapshot ∷ [])) ≡ option_map (fault_with held snapshot c) (first_point held snapshot c (points c))
    by all some None e = absurd (some.1 e)
    by all some (Some at) e =
        first-is-least held snapshot c at (keys_in_order (held ++ snapshot ∷ [])) (in_order-sorted file_order file_total (keys (held ++ snapshot ∷ []))) some.0
        (λ q front. none-first held snapshot q (subst (λ es. IfWithin (lookup (is_at (file_order q)) es)) all (least.below q front))) e

-- ---- what one report costs, where no sum passes the limit

found-same : (all : List (Key × Sums)) (functions : Key → Option Sums) (changed : List (Key × Sums)) (least : Option Key) → IsLeastSoFar all functions changed least → least ≡ None
    → (q : Key) → lookup (is_at (file_order q)) all ≡ sums_now functions changed q
found-same all functions changed least so_far none q = so_far.same q (ap (comes_before q) none) ∙ so_far.prepared.now q

pub report-spent : (all : List (Key × Sums)) (functions : Key → Option Sums) (changed : List (Key × Sums)) (least : Option Key) (url : List ℕ) (f : FunctionReport) (k : Key) (bound : Key → ℕ) (old new : ℕ) (o : Option Sums)
    → IsLeastSoFar all functions changed least → least ≡ None → key_of url f ≡ Some k → o ≡ sums_now functions changed k → new ≤ old + (runs_held o + report_runs f)
    → ((key : Key) → runs_at all key + own_runs key url f ≤ bound key) → new ≤ old + for_report bound url f
report-spent all functions changed least url f k bound old new o so_far none named is cost within =
    report-cost all (sums_now functions changed) url f k bound old new (found-same all functions changed least so_far none k) named (subst (λ x. new ≤ old + (runs_held x + report_runs f)) is cost) within

pub report-grown : (all : List (Key × Sums)) (functions : Key → Option Sums) (changed : List (Key × Sums)) (least : Option Key) (url : List ℕ) (f : FunctionReport) (k : Key) (v : Sums) (o : Option Sums)
    → IsLeastSoFar all functions changed least → least ≡ None → key_of url f ≡ Some k → o ≡ sums_now functions changed k → v ≡ summed o (report_sums f)
    → length v.runs.runs ≤ runs_held o + report_runs f
    → (key : Key) → runs_at (with_report all url f) key ≤ runs_at all key + own_runs key url f
report-grown all functions changed least url f k v o so_far none named is value size =
    report-grows all (sums_now functions changed) url f k v (found-same all functions changed least so_far none k) named
    (value ∙ ap (λ x. summed x (report_sums f)) is) (subst (λ x. length v.runs.runs ≤ runs_held x + report_runs f) is size)
