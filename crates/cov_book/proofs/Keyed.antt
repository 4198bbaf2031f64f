-- The map of a list of snapshots, with one snapshot more, is that of the longer list.
use Rattle.std.proofs.Common.{◌≡◌, ℕ, ◌+◌, ◌<◌, ◌≤◌, Bool, true, false, List, [], ◌∷◌, ◌++◌, map, refl, sym, ap, ◌∙◌, subst, arith}
use Rattle.std.specs.Prelude.{Option, None, Some, option_map, unwrap_or, cond, ◌||◌, nat_lt, filter, flat_map, sum_by}
use Rattle.std.specs.List.{list_any, AllByRecursion, cons_option}
use Rattle.std.specs.declared.cmp.Ordering.{Ordering}
use Rattle.std.specs.declared.cmp.Ordering.TheVariants.{Less, Equal, Greater}
use Rattle.std.specs.Ordering.{match_ordering, is_eq}
use Rattle.std.specs.List.Sorted.{IsStrictlySortedBy}
use Rattle.std.specs.Map.{lookup}
use Rattle.std.specs.BTreeSet.{insert_key}
use Rattle.std.specs.BTreeMap.{insert_entry, is_at}
use Rattle.std.proofs.lemmas.Cmp.{tied_itself}
use Rattle.std.proofs.lemmas.Grind.{flat_map-append}
use Rattle.std.proofs.lemmas.List.{append-nil, append_assoc}
use Rattle.std.proofs.lemmas.List.Folds.{list_any-append}
use Rattle.std.proofs.lemmas.List.Sums.{sum_by-append, sum_by-cons}
use Rattle.cov_model.specs.declared.report.FunctionReport.{FunctionReport}
use Rattle.cov_model.specs.declared.report.Range.{Range}
use Rattle.cov_model.specs.declared.snapshot.Entry.{Entry}
use Rattle.cov_model.specs.declared.snapshot.Snapshot.{Snapshot}
use Rattle.cov_model.specs.declared.sums.Key.{Key}
use Rattle.cov_text.specs.Listing.{first_of, inserted}
use Rattle.cov_model.specs.Nesting.{inner_count}
use Rattle.cov_model.specs.Normal.{maximal_runs}
use Rattle.cov_model.specs.Sums.{reports, root, total, flag, root_count, is_of, key_of, keys, keys_in_order, file_order, same_key}
use Rattle.cov_steps.specs.Runs.{count_in, counted}
use Rattle.cov_steps.proofs.Maximal.{maximal_runs-same, count_in-maximal}
use Rattle.cov_book.specs.declared.sums.Sums.{Sums}
use Rattle.cov_book.specs.Entries.{sums_at, key_sums, entries_of}
use Rattle.cov_book.specs.Prepared.{report_sums, sum_two, summed, with_key, with_reports, with_entries, SumsGrow}
use Rattle.cov_book.specs.Weights.{weighed}
use Rattle.cov_book.proofs.Agreeing.{keys-append}
use Rattle.cov_book.proofs.Finding.{weigh, weigh-reports}
use Rattle.cov_book.proofs.Having.{absent, has-is, cons-count, any-count}
use Rattle.cov_book.proofs.Ordered.{file_total, file_exact, same-is, is-same, in_order-sorted, keys-same}

-- ---- putting a key into rising keys

abbrev with_sums : (Key → Sums) → Key → Key × Sums
with_sums g key = (key, g key)

differs : (k z : Key) → file_order k z ≡ Less → ¬ (z ≡ k)
differs k z lt is = let itself = tied_itself file_total k in let same : file_order k z ≡ Equal = ap (file_order k) is ∙ itself in cc

above-differ : (g h : Key → Sums) (k : Key) → ((key : Key) → ¬ (key ≡ k) → h key ≡ g key) → (zs : List Key) → AllByRecursion (λ z. file_order k z ≡ Less) zs
    → map (with_sums g) zs ≡ map (with_sums h) zs
above-differ g h k same [] lt = refl
above-differ g h k same (z ∷ zs) lt = (λ i. (z, sym (same z (differs k z lt.0)) i) ∷ above-differ g h k same zs lt.1 i)

above : (k y : Key) (ys : List Key) → file_order k y ≡ Less → AllByRecursion (λ z. file_order y z ≡ Less) ys → AllByRecursion (λ z. file_order k z ≡ Less) ys
above k y [] lt h = tt
above k y (z ∷ zs) lt h = (file_total.trans k y z lt h.0, above k y zs lt h.1)

put : (g h : Key → Sums) (k : Key) (v : Sums) (ks : List Key) → IsStrictlySortedBy file_order ks → ((key : Key) → ¬ (key ≡ k) → h key ≡ g key) → v ≡ h k
    → insert_entry file_order (map (with_sums g) ks) k v ≡ map (with_sums h) (insert_key file_order ks k)
unfolding IsStrictlySortedBy
put g h k v [] sorts same is = (λ i. (k, is i) ∷ [])
put g h k v (y ∷ ys) sorts same is = by (file_order k y) refl (put g h k v ys sorts.1 same is)
  where
    by : (o : Ordering) → file_order k y ≡ o
        → insert_entry file_order (map (with_sums g) ys) k v ≡ map (with_sums h) (insert_key file_order ys k)
        → match_ordering o ((k, v) ∷ (y, g y) ∷ map (with_sums g) ys) ((y, v) ∷ map (with_sums g) ys) ((y, g y) ∷ insert_entry file_order (map (with_sums g) ys) k v)
        ≡ map (with_sums h) (match_ordering o (k ∷ y ∷ ys) (y ∷ ys) (y ∷ insert_key file_order ys k))
    by Less e rest = (λ i. (k, is i) ∷ above-differ g h k same (y ∷ ys) (e, above k y ys e sorts.0) i)
    by Equal e rest =
        let here : k ≡ y = file_exact k y e in
        let lt : AllByRecursion (λ z. file_order k z ≡ Less) ys = subst (λ x. AllByRecursion (λ z. file_order x z ≡ Less) ys) (sym here) sorts.0 in
        (λ i. (y, (is ∙ ap h here) i) ∷ above-differ g h k same ys lt i)
    by Greater e rest =
        let other : ¬ (y ≡ k) = λ there. let itself = tied_itself file_total k in let tie : file_order k y ≡ Equal = ap (file_order k) there ∙ itself in cc in
        (λ i. (y, sym (same y other) i) ∷ rest i)

-- ---- looking a key up

pub is-at : (k y : Key) → is_at (file_order k) y ≡ same_key k y
is-at k y = by (file_order k y) refl (same_key k y) refl
  where
    tie : k ≡ y → file_order k y ≡ Equal
    tie here = ap (file_order k) (sym here) ∙ tied_itself file_total k

    by : (o : Ordering) → file_order k y ≡ o → (b : Bool) → same_key k y ≡ b → is_eq o ≡ b
    by Less e true t = let here = tie (same-is k y t) in absurd cc
    by Less e false t = refl
    by Equal e true t = refl
    by Equal e false t = let there = is-same k y (file_exact k y e) in absurd cc
    by Greater e true t = let here = tie (same-is k y t) in absurd cc
    by Greater e false t = refl

pub found : (g : Key → Sums) (k : Key) (ks : List Key) → lookup (is_at (file_order k)) (map (with_sums g) ks) ≡ cond (list_any (same_key k) ks) (Some (g k)) None
found g k [] = refl
found g k (y ∷ ys) =
    ap (λ b. cond b (Some (g y)) (lookup (is_at (file_order k)) (map (with_sums g) ys))) (is-at k y)
    ∙ ap (cond (same_key k y) (Some (g y))) (found g k ys)
    ∙ by (same_key k y) refl
  where
    by : (b : Bool) → same_key k y ≡ b → cond b (Some (g y)) (cond (list_any (same_key k) ys) (Some (g k)) None) ≡ cond (b || list_any (same_key k) ys) (Some (g k)) None
    by true e = ap (λ x. Some (g x)) (sym (same-is k y e))
    by false e = refl

-- ---- the sums of reports

abbrev sums_over : Key → List FunctionReport → Sums
sums_over key fs = record {
  block = list_any (λ (f : FunctionReport). f.block) fs;
  root = sum_by root_count fs;
  runs = record { start = key.start; end = key.end; runs = maximal_runs key.start key.end (λ o. sum_by (λ (f : FunctionReport). inner_count f.ranges o) fs) };
}

at-reports : (held : List Snapshot) (key : Key) → sums_at held key ≡ sums_over key (reports held key)
unfolding flag root total
at-reports held key = refl

counted-key : (url name : List ℕ) (rs : List Range) (k : Key) → option_map (λ (r : Range). record { url = url; start = r.start; end = r.end; name = name }) (first_of rs) ≡ Some k
    → counted rs ≡ record { start = k.start; end = k.end; runs = maximal_runs k.start k.end (inner_count rs) }
counted-key url name [] k e = absurd cc
counted-key url name (r ∷ rest) k e =
    let key : Key = record { url = url; start = r.start; end = r.end; name = name } in
    let is : key ≡ k = cc in
    (λ i. record { start = (is i).start; end = (is i).end; runs = maximal_runs (is i).start (is i).end (inner_count (r ∷ rest)) })

pub sum-one : {A : Type 0} (w : A → ℕ) (x : A) → sum_by w (x ∷ []) ≡ w x
sum-one w x = omega (arith, sum_by-cons w x [])

first-report : (url : List ℕ) (f : FunctionReport) (k : Key) → key_of url f ≡ Some k → report_sums f ≡ sums_over k (f ∷ [])
first-report url f k e =
    let runs = counted-key url f.name f.ranges k e in
    (λ i. record {
      block = or-none f.block i;
      root = sym (sum-one root_count f) i;
      runs = (runs ∙ (λ j. record { start = k.start; end = k.end; runs = maximal_runs-same k.start k.end (inner_count f.ranges) (λ o. sum_by (λ (r : FunctionReport). inner_count r.ranges o) (f ∷ [])) (λ o low high. sym (sum-one (λ (r : FunctionReport). inner_count r.ranges o) f)) j })) i;
    })
  where
    or-none : (b : Bool) → b ≡ (b || false)
    or-none true = refl
    or-none false = refl

sums-more : (k : Key) (fs gs : List FunctionReport) → sum_two (sums_over k fs) (sums_over k gs) ≡ sums_over k (fs ++ gs)
sums-more k fs gs =
    let at : List FunctionReport → ℕ → ℕ = λ xs o. sum_by (λ (f : FunctionReport). inner_count f.ranges o) xs in
    let each : (o : ℕ) → k.start ≤ o → o < k.end → count_in (maximal_runs k.start k.end (at fs)) o + count_in (maximal_runs k.start k.end (at gs)) o ≡ at (fs ++ gs) o =
    λ o low high.
    (λ i. count_in-maximal k.start k.end o (at fs) low high i + count_in-maximal k.start k.end o (at gs) low high i)
    ∙ sym (sum_by-append (λ (f : FunctionReport). inner_count f.ranges o) fs gs) in
    let runs : maximal_runs k.start k.end (λ o. count_in (maximal_runs k.start k.end (at fs)) o + count_in (maximal_runs k.start k.end (at gs)) o) ≡ maximal_runs k.start k.end (at (fs ++ gs)) =
    maximal_runs-same k.start k.end (λ o. count_in (maximal_runs k.start k.end (at fs)) o + count_in (maximal_runs k.start k.end (at gs)) o) (at (fs ++ gs)) each in
    (λ i. record {
      block = sym (list_any-append (λ (f : FunctionReport). f.block) fs gs) i;
      root = sym (sum_by-append root_count fs gs) i;
      runs = record { start = k.start; end = k.end; runs = runs i };
    })

-- ---- one report more

abbrev pub one : List ℕ → FunctionReport → Snapshot
one url f = record { url = url; functions = f ∷ [] } ∷ []

reports-with : (held : List Snapshot) (url : List ℕ) (f : FunctionReport) (key : Key) (b : Bool) → is_of key url f ≡ b → reports (held ++ one url f ∷ []) key ≡ reports held key ++ cond b (f ∷ []) []
unfolding reports
reports-with held url f key b e =
    flat_map-append (λ (snapshot : Snapshot). flat_map (λ (entry : Entry). filter (is_of key entry.url) entry.functions) snapshot) held (one url f ∷ [])
    ∙ ap (λ t. reports held key ++ ((cond t (f ∷ []) [] ++ []) ++ [])) e
    ∙ ap (λ xs. reports held key ++ xs) (append-nil (cond b (f ∷ []) [] ++ []) ∙ append-nil (cond b (f ∷ []) []))

pub of-key : (key : Key) (url : List ℕ) (f : FunctionReport) (o : Option Key) → key_of url f ≡ o → is_of key url f ≡ unwrap_or (option_map (same_key key) o) false
of-key key url f o e = ap (λ x. unwrap_or (option_map (same_key key) x) false) e

keys-with : (held : List Snapshot) (url : List ℕ) (f : FunctionReport) (o : Option Key) → key_of url f ≡ o → keys_in_order (held ++ one url f ∷ []) ≡ inserted file_order (keys_in_order held) (cons_option o [])
keys-with held url f o e =
    keys-append held (one url f ∷ [])
    ∙ ap (λ x. inserted file_order (keys_in_order held) ((cons_option x [] ++ []) ++ [])) e
    ∙ ap (inserted file_order (keys_in_order held)) (append-nil (cons_option o [] ++ []) ∙ append-nil (cons_option o []))

unlike : (key k : Key) → ¬ (key ≡ k) → same_key key k ≡ false
unlike key k other = by (same_key key k) refl
  where
    by : (b : Bool) → same_key key k ≡ b → b ≡ false
    by true e = absurd (other (same-is key k e))
    by false e = refl

step : (held : List Snapshot) (url : List ℕ) (f : FunctionReport) (o : Option Key) → key_of url f ≡ o → with_key (entries_of held) f o ≡ entries_of (held ++ one url f ∷ [])
unfolding entries_of
step held url f None e =
    let same : (key : Key) → sums_at held key ≡ sums_at (held ++ one url f ∷ []) key =
    λ key.
    at-reports held key
    ∙ ap (sums_over key) (sym (append-nil (reports held key)) ∙ sym (reports-with held url f key false (of-key key url f None e)))
    ∙ sym (at-reports (held ++ one url f ∷ []) key) in
    each (keys_in_order held) same ∙ ap (map (key_sums (held ++ one url f ∷ []))) (sym (keys-with held url f None e))
  where
    each : (ks : List Key) → ((key : Key) → sums_at held key ≡ sums_at (held ++ one url f ∷ []) key) → map (key_sums held) ks ≡ map (key_sums (held ++ one url f ∷ [])) ks
    each [] same = refl
    each (k ∷ ks) same = (λ i. (k, same k i) ∷ each ks same i)
step held url f (Some k) e =
    let both = held ++ one url f ∷ [] in
    let old = lookup (is_at (file_order k)) (map (key_sums held) (keys_in_order held)) in
    let here : is_of k url f ≡ true = of-key k url f (Some k) e ∙ is-same k k refl in
    let now : sums_at both k ≡ sums_over k (reports held k ++ f ∷ []) = at-reports both k ∙ ap (sums_over k) (reports-with held url f k true here) in
    let value : summed old (report_sums f) ≡ sums_at both k = by (list_any (same_key k) (keys_in_order held)) refl ∙ sym now in
    let others : (key : Key) → ¬ (key ≡ k) → sums_at both key ≡ sums_at held key =
    λ key other.
    at-reports both key
    ∙ ap (sums_over key) (reports-with held url f key false (of-key key url f (Some k) e ∙ unlike key k other) ∙ append-nil (reports held key))
    ∙ sym (at-reports held key) in
    put (sums_at held) (sums_at both) k (summed old (report_sums f)) (keys_in_order held) (in_order-sorted file_order file_total (keys held)) others value
    ∙ ap (map (key_sums both)) (sym (keys-with held url f (Some k) e))
  where
    by : (b : Bool) → list_any (same_key k) (keys_in_order held) ≡ b → summed (lookup (is_at (file_order k)) (map (key_sums held) (keys_in_order held))) (report_sums f) ≡ sums_over k (reports held k ++ f ∷ [])
    by true there =
        ap (λ x. summed x (report_sums f)) (found (sums_at held) k (keys_in_order held) ∙ ap (λ t. cond t (Some (sums_at held k)) None) there)
        ∙ (λ i. sum_two (at-reports held k i) (first-report url f k e i))
        ∙ sums-more k (reports held k) (f ∷ [])
    by false none =
        ap (λ x. summed x (report_sums f)) (found (sums_at held) k (keys_in_order held) ∙ ap (λ t. cond t (Some (sums_at held k)) None) none)
        ∙ first-report url f k e ∙ ap (λ fs. sums_over k (fs ++ f ∷ [])) (sym (absent held k none))

-- ---- a snapshot more

abbrev ones : List ℕ → List FunctionReport → List Snapshot
ones url [] = []
ones url (f ∷ fs) = one url f ∷ ones url fs

abbrev parts : List Entry → List Snapshot
parts [] = []
parts (entry ∷ entries) = ones entry.url entry.functions ++ parts entries

many : (held : List Snapshot) (url : List ℕ) (fs : List FunctionReport) → with_reports (entries_of held) url fs ≡ entries_of (held ++ ones url fs)
many held url [] = ap entries_of (sym (append-nil held))
many held url (f ∷ fs) =
    ap (λ known. with_reports known url fs) (step held url f (key_of url f) refl)
    ∙ many (held ++ one url f ∷ []) url fs
    ∙ ap entries_of (append_assoc held (one url f ∷ []) (ones url fs))

all : (held : List Snapshot) (entries : List Entry) → with_entries (entries_of held) entries ≡ entries_of (held ++ parts entries)
all held [] = ap entries_of (sym (append-nil held))
all held (entry ∷ entries) =
    ap (λ known. with_entries known entries) (many held entry.url entry.functions)
    ∙ all (held ++ ones entry.url entry.functions) entries
    ∙ ap entries_of (append_assoc held (ones entry.url entry.functions) (parts entries))

-- ---- lists with the same reports

same-entries : (xs ys : List Snapshot) → ((w : List ℕ → FunctionReport → ℕ) → weigh w xs ≡ weigh w ys) → entries_of xs ≡ entries_of ys
unfolding entries_of flag root total
same-entries xs ys weights =
    let sums : (w : FunctionReport → ℕ) (key : Key) → sum_by w (reports xs key) ≡ sum_by w (reports ys key) =
    λ w key. weigh-reports w key xs ∙ weights (λ url f. cond (is_of key url f) (w f) 0) ∙ sym (weigh-reports w key ys) in
    let names : keys_in_order xs ≡ keys_in_order ys =
    keys-same (keys xs) (keys ys) (λ key.
    has-is xs key ∙ cons-count (reports xs key) ∙ ap (nat_lt 0) (sums (λ f. 1) key) ∙ sym (cons-count (reports ys key)) ∙ sym (has-is ys key)) in
    let at : (key : Key) → sums_at xs key ≡ sums_at ys key =
    λ key.
    let block =
    any-count (λ (f : FunctionReport). f.block) (reports xs key)
    ∙ ap (nat_lt 0) (sums (λ f. cond f.block 1 0) key)
    ∙ sym (any-count (λ (f : FunctionReport). f.block) (reports ys key)) in
    let runs =
    maximal_runs-same key.start key.end (λ o. sum_by (λ (f : FunctionReport). inner_count f.ranges o) (reports xs key)) (λ o. sum_by (λ (f : FunctionReport). inner_count f.ranges o) (reports ys key))
    (λ o low high. sums (λ f. inner_count f.ranges o) key) in
    (λ i. record { block = block i; root = sums root_count key i; runs = record { start = key.start; end = key.end; runs = runs i } }) in
    each (keys_in_order xs) at ∙ ap (map (key_sums ys)) names
  where
    each : (ks : List Key) → ((key : Key) → sums_at xs key ≡ sums_at ys key) → map (key_sums xs) ks ≡ map (key_sums ys) ks
    each [] same = refl
    each (k ∷ ks) same = (λ i. (k, same k i) ∷ each ks same i)

weigh-one : (w : List ℕ → FunctionReport → ℕ) (url : List ℕ) (f : FunctionReport) → sum_by (λ (entry : Entry). sum_by (w entry.url) entry.functions) (one url f) ≡ w url f
weigh-one w url f = sum-one (λ (entry : Entry). sum_by (w entry.url) entry.functions) (record { url = url; functions = f ∷ [] }) ∙ sum-one (w url) f

weigh-ones : (w : List ℕ → FunctionReport → ℕ) (url : List ℕ) (fs : List FunctionReport) → weigh w (ones url fs) ≡ sum_by (w url) fs
weigh-ones w url [] = refl
weigh-ones w url (f ∷ fs) =
    sum_by-cons (λ (snapshot : Snapshot). sum_by (λ (entry : Entry). sum_by (w entry.url) entry.functions) snapshot) (one url f) (ones url fs)
    ∙ (λ i. weigh-one w url f i + weigh-ones w url fs i)
    ∙ sym (sum_by-cons (w url) f fs)

weigh-parts : (w : List ℕ → FunctionReport → ℕ) (entries : List Entry) → weigh w (parts entries) ≡ sum_by (λ (entry : Entry). sum_by (w entry.url) entry.functions) entries
weigh-parts w [] = refl
weigh-parts w (entry ∷ entries) =
    sum_by-append (λ (snapshot : Snapshot). sum_by (λ (e : Entry). sum_by (w e.url) e.functions) snapshot) (ones entry.url entry.functions) (parts entries)
    ∙ (λ i. weigh-ones w entry.url entry.functions i + weigh-parts w entries i)
    ∙ sym (sum_by-cons (λ (e : Entry). sum_by (w e.url) e.functions) entry entries)

weigh-append : (w : List ℕ → FunctionReport → ℕ) (xs ys : List Snapshot) → weigh w (xs ++ ys) ≡ weigh w xs + weigh w ys
weigh-append w xs ys = sum_by-append (λ (snapshot : Snapshot). sum_by (λ (entry : Entry). sum_by (w entry.url) entry.functions) snapshot) xs ys

-- The sums of a list with those of a snapshot are the sums of both.
pub entries-more : SumsGrow
entries-more held snapshot =
    all held snapshot
    ∙ same-entries (held ++ parts snapshot) (held ++ snapshot ∷ [])
    (λ w.
    weigh-append w held (parts snapshot)
    ∙ ap (λ n. weigh w held + n)
    (weigh-parts w snapshot ∙ sym (sum-one (λ (s : Snapshot). sum_by (λ (entry : Entry). sum_by (w entry.url) entry.functions) s) snapshot))
    ∙ sym (weigh-append w held (snapshot ∷ [])))

-- Snapshots with the same reports add the same to a list.
pub alike-sums : (held : List Snapshot) (given other : Snapshot) → ((w : List ℕ → FunctionReport → ℕ) → weighed w given ≡ weighed w other) → entries_of (held ++ given ∷ []) ≡ entries_of (held ++ other ∷ [])
alike-sums held given other same =
    same-entries (held ++ given ∷ []) (held ++ other ∷ [])
    (λ w.
    weigh-append w held (given ∷ [])
    ∙ ap (λ n. weigh w held + n) (sum-one (λ (s : Snapshot). weighed w s) given ∙ same w ∙ sym (sum-one (λ (s : Snapshot). weighed w s) other))
    ∙ sym (weigh-append w held (other ∷ [])))
