-- How many runs are looked at.
use Rattle.std.proofs.Common.{◌≡◌, ℕ, ◌+◌, ◌*◌, ◌≤◌, Bool, true, false, List, [], ◌∷◌, length, refl, sym, ap, ◌∙◌, subst, arith}
use Rattle.std.proofs.Math.Nat.{zero-mul, suc-mul}
use Rattle.std.specs.Prelude.{Option, None, Some, cond, option_map, unwrap_or, sum_by, filter, filter_map, flat_map, ◌||◌}
use Rattle.std.specs.List.{AllByRecursion, list_any, cons_option}
use Rattle.std.specs.Map.{lookup}
use Rattle.std.specs.BTreeMap.{insert_entry, is_at}
use Rattle.std.proofs.lemmas.List.{append-nil}
use Rattle.std.proofs.lemmas.List.Sums.{sum_by-cons}
use Rattle.cov_model.specs.declared.report.FunctionReport.{FunctionReport}
use Rattle.cov_model.specs.declared.snapshot.Entry.{Entry}
use Rattle.cov_model.specs.declared.snapshot.Snapshot.{Snapshot}
use Rattle.cov_model.specs.declared.sums.Key.{Key}
use Rattle.cov_text.specs.Listing.{in_order}
use Rattle.cov_model.specs.Normal.{maximal_runs}
use Rattle.cov_model.specs.Sums.{total, keys, keys_in_order, key_of, is_of, file_order, same_key}
use Rattle.cov_book.specs.declared.sums.Sums.{Sums}
use Rattle.cov_book.specs.Counts.{reports_in}
use Rattle.cov_book.specs.Cost.{cost_of, held_runs, added_runs}
use Rattle.cov_book.specs.Spent.{for_key, for_report, for_reports, for_entries, own_runs, own_all, runs_at}
use Rattle.cov_book.specs.Entries.{sums_at, entries_of}
use Rattle.cov_book.specs.Prepared.{report_runs, report_sums, runs_held, summed, with_key, with_report}
use Rattle.cov_book.proofs.Finding.{sum-flat, sum-each, one-script}
use Rattle.cov_book.proofs.Keyed.{found, is-at, of-key}
use Rattle.cov_book.proofs.Ordered.{file_exact, any-in_order, is-same, same-is}
use Rattle.cov_book.proofs.Preparing.{found-put, at-flip}

-- ---- one report

own-here : (url : List ℕ) (f : FunctionReport) (k : Key) → key_of url f ≡ Some k → own_runs k url f ≡ report_runs f
own-here url f k named = ap (λ b. cond b (report_runs f) 0) (of-key k url f (Some k) named ∙ is-same k k refl)

pub report-cost : (known : List (Key × Sums)) (now : Key → Option Sums) (url : List ℕ) (f : FunctionReport) (k : Key) (bound : Key → ℕ) (old new : ℕ)
    → lookup (is_at (file_order k)) known ≡ now k → key_of url f ≡ Some k → new ≤ old + (runs_held (now k) + report_runs f)
    → ((key : Key) → runs_at known key + own_runs key url f ≤ bound key) → new ≤ old + for_report bound url f
report-cost known now url f k bound old new before named cost within =
    let most = within k in
    let own = own-here url f k named in
    let held : runs_at known k ≡ runs_held (now k) = ap runs_held before in
    let whole : for_report bound url f ≡ bound k = ap (for_key bound) named in
    omega (arith, cost)

grown-at : (known : List (Key × Sums)) (f : FunctionReport) (k key : Key) (v : Sums) (b : Bool) → is_at (file_order k) key ≡ b
    → length v.runs.runs ≤ runs_at known k + report_runs f
    → runs_held (cond b (Some v) (lookup (is_at (file_order key)) known)) ≤ runs_at known key + cond b (report_runs f) 0
grown-at known f k key v true here size =
    let same : k ≡ key = same-is k key (sym (is-at k key) ∙ here) in
    subst (λ q. length v.runs.runs ≤ runs_at known q + report_runs f) same size
grown-at known f k key v false other size = omega arith

pub report-grows : (known : List (Key × Sums)) (now : Key → Option Sums) (url : List ℕ) (f : FunctionReport) (k : Key) (v : Sums)
    → lookup (is_at (file_order k)) known ≡ now k → key_of url f ≡ Some k → v ≡ summed (now k) (report_sums f)
    → length v.runs.runs ≤ runs_held (now k) + report_runs f
    → (key : Key) → runs_at (with_report known url f) key ≤ runs_at known key + own_runs key url f
report-grows known now url f k v before named is size key =
    let put : with_report known url f ≡ insert_entry file_order known k v =
    ap (with_key known f) named ∙ ap (insert_entry file_order known k) (ap (λ o. summed o (report_sums f)) before ∙ sym is) in
    let found = ap runs_held (ap (lookup (is_at (file_order key))) put ∙ found-put known k v key) in
    let own : own_runs key url f ≡ cond (is_at (file_order k) key) (report_runs f) 0 =
    ap (λ b. cond b (report_runs f) 0) (of-key key url f (Some k) named ∙ sym (is-at key k) ∙ sym (at-flip k key)) in
    let here = grown-at known f k key v (is_at (file_order k) key) refl (subst (λ n. length v.runs.runs ≤ n + report_runs f) (sym (ap runs_held before)) size) in
    omega arith

-- ---- reports one after the other

pub rest-within : (now : List (Key × Sums)) (url : List ℕ) (f : FunctionReport) (left rest : List FunctionReport) (key : Key) (all most : ℕ)
    → left ≡ f ∷ rest → runs_at now key + sum_by (own_runs key url) left ≤ all → all ≤ most → runs_at now key + own_runs key url f ≤ most
rest-within now url f left rest key all most more so_far within =
    let is = ap (sum_by (own_runs key url)) more ∙ sum_by-cons (own_runs key url) f rest in
    omega (arith, is, so_far, within)

pub rest-grows : (now next : List (Key × Sums)) (url : List ℕ) (f : FunctionReport) (left rest : List FunctionReport) (key : Key) (all : ℕ)
    → left ≡ f ∷ rest → runs_at now key + sum_by (own_runs key url) left ≤ all → runs_at next key ≤ runs_at now key + own_runs key url f
    → runs_at next key + sum_by (own_runs key url) rest ≤ all
rest-grows now next url f left rest key all more so_far grown =
    let is = ap (sum_by (own_runs key url)) more ∙ sum_by-cons (own_runs key url) f rest in
    omega (arith, is, so_far, grown)

pub rest-cost : (bound : Key → ℕ) (url : List ℕ) (f : FunctionReport) (left rest : List FunctionReport) (steps next all : ℕ)
    → left ≡ f ∷ rest → steps + for_reports bound url left ≤ all → next ≤ steps + for_report bound url f → next + for_reports bound url rest ≤ all
rest-cost bound url f left rest steps next all more so_far cost =
    let is = ap (for_reports bound url) more ∙ sum_by-cons (for_report bound url) f rest in
    omega (arith, is, so_far, cost)

-- ---- scripts one after the other

pub script-within : (now : List (Key × Sums)) (entry : Entry) (left rest : List Entry) (key : Key) (all most : ℕ)
    → left ≡ entry ∷ rest → runs_at now key + own_all key left ≤ all → all ≤ most → runs_at now key + sum_by (own_runs key entry.url) entry.functions ≤ most
script-within now entry left rest key all most more so_far within =
    let is = ap (own_all key) more ∙ sum_by-cons (λ (e : Entry). sum_by (own_runs key e.url) e.functions) entry rest in
    omega (arith, is, so_far, within)

pub script-grows : (now next : List (Key × Sums)) (entry : Entry) (left rest : List Entry) (key : Key) (all : ℕ)
    → left ≡ entry ∷ rest → runs_at now key + own_all key left ≤ all → runs_at next key ≤ runs_at now key + sum_by (own_runs key entry.url) entry.functions
    → runs_at next key + own_all key rest ≤ all
script-grows now next entry left rest key all more so_far grown =
    let is = ap (own_all key) more ∙ sum_by-cons (λ (e : Entry). sum_by (own_runs key e.url) e.functions) entry rest in
    omega (arith, is, so_far, grown)

pub script-cost : (bound : Key → ℕ) (entry : Entry) (left rest : List Entry) (steps next all : ℕ)
    → left ≡ entry ∷ rest → steps + for_entries bound left ≤ all → next ≤ steps + for_reports bound entry.url entry.functions → next + for_entries bound rest ≤ all
script-cost bound entry left rest steps next all more so_far cost =
    let is = ap (for_entries bound) more ∙ sum_by-cons (λ (e : Entry). for_reports bound e.url e.functions) entry rest in
    omega (arith, is, so_far, cost)

-- ---- all reports of a snapshot, by their functions

sum-less : {A : Type 0} (f g : A → ℕ) (xs : List A) → AllByRecursion (λ x. f x ≤ g x) xs → sum_by f xs ≤ sum_by g xs
sum-less f g [] h = omega arith
sum-less f g (x ∷ xs) h = omega (arith, h.0, sum-less f g xs h.1, sum_by-cons f x xs, sum_by-cons g x xs)

sum-zero : {A : Type 0} (xs : List A) → sum_by (λ (x : A). 0) xs ≡ 0
sum-zero [] = refl
sum-zero {A = A} (x ∷ xs) = omega (arith, sum-zero xs, sum_by-cons (λ (y : A). 0) x xs)

sum-both : {A : Type 0} (f g : A → ℕ) (xs : List A) → sum_by (λ x. f x + g x) xs ≡ sum_by f xs + sum_by g xs
sum-both f g [] = refl
sum-both f g (x ∷ xs) = omega (arith, sum-both f g xs, sum_by-cons f x xs, sum_by-cons g x xs, sum_by-cons (λ y. f y + g y) x xs)

-- two sums in either order
sum-swap : {A B : Type 0} (h : A → B → ℕ) (xs : List A) (ys : List B) → sum_by (λ x. sum_by (h x) ys) xs ≡ sum_by (λ y. sum_by (λ x. h x y) xs) ys
sum-swap {A = A} h xs [] = sum-zero {A = A} xs
sum-swap h xs (y ∷ ys) =
    sum-each (λ x. sum_by (h x) (y ∷ ys)) (λ x. h x y + sum_by (h x) ys) (λ x. sum_by-cons (h x) y ys) xs
    ∙ sum-both (λ x. h x y) (λ x. sum_by (h x) ys) xs
    ∙ ap (λ n. sum_by (λ x. h x y) xs + n) (sum-swap h xs ys)
    ∙ sym (sum_by-cons (λ z. sum_by (λ x. h x z) xs) y ys)

sum-same : {A : Type 0} (n : ℕ) (xs : List A) → sum_by (λ (x : A). n) xs ≡ length xs * n
sum-same n [] = sym (zero-mul n)
sum-same {A = A} n (x ∷ xs) =
    let one = sum_by-cons (λ (y : A). n) x xs in
    let rest = sum-same n xs in
    let product = suc-mul (length xs) n in
    omega (arith, one, rest, product)

abbrev at-key : (Key → ℕ) → Key → Key → ℕ
at-key g q k = cond (same_key q k) (g q) 0

-- a key that is there is counted
counted-there : (g : Key → ℕ) (k : Key) (qs : List Key) → list_any (same_key k) qs ≡ true → g k ≤ sum_by (λ q. at-key g q k) qs
counted-there g k [] there = absurd cc
counted-there g k (q ∷ qs) there = by (same_key k q) refl there (counted-there g k qs)
  where
    whole : ℕ
    whole = sum_by (λ p. at-key g p k) (q ∷ qs)

    by : (b : Bool) → same_key k q ≡ b → (b || list_any (same_key k) qs) ≡ true → (list_any (same_key k) qs ≡ true → g k ≤ sum_by (λ p. at-key g p k) qs) → g k ≤ sum_by (λ p. at-key g p k) (q ∷ qs)
    by true is there rest =
        let here : q ≡ k = sym (same-is k q is) in
        let value : at-key g q k ≡ g k = ap (λ b. cond b (g q) 0) (is-same q k here) ∙ ap g here in
        omega (arith, value, sum_by-cons (λ p. at-key g p k) q qs)
    by false is there rest = omega (arith, rest there, sum_by-cons (λ p. at-key g p k) q qs)

own-there : (ks qs : List Key) → ((k : Key) → list_any (same_key k) ks ≡ true → list_any (same_key k) qs ≡ true) → AllByRecursion (λ (k : Key). list_any (same_key k) qs ≡ true) ks
own-there [] qs h = tt
own-there (k ∷ ks) qs h =
    (h k (ap (λ b. b || list_any (same_key k) ks) (is-same k k refl)), own-there ks qs (λ q there. h q (or-right (same_key q k) (list_any (same_key q) ks) there)))
  where
    or-right : (a b : Bool) → b ≡ true → (a || b) ≡ true
    or-right true b e = refl
    or-right false b e = e

all-less : (g : Key → ℕ) (ks qs : List Key) → AllByRecursion (λ (k : Key). list_any (same_key k) qs ≡ true) ks → AllByRecursion (λ k. g k ≤ sum_by (λ q. at-key g q k) qs) ks
all-less g [] qs h = tt
all-less g (k ∷ ks) qs h = (counted-there g k qs h.0, all-less g ks qs h.1)

-- keys that are counted by those among them
by-keys : (g : Key → ℕ) (ks : List Key) → sum_by g ks ≤ sum_by (λ q. sum_by (at-key g q) ks) (in_order file_order ks)
by-keys g ks =
    let qs = in_order file_order ks in
    let less =
    sum-less g (λ k. sum_by (λ q. at-key g q k) qs) ks
    (all-less g ks qs (own-there ks qs (λ k there. any-in_order file_order file_exact (same_key k) ks ∙ there))) in
    subst (λ n. sum_by g ks ≤ n) (sum-swap (λ k q. at-key g q k) ks qs) less

keys-one : (g : Key → ℕ) (o : Option Key) (ks : List Key) → sum_by g (cons_option o ks) ≡ for_key g o + sum_by g ks
keys-one g None ks = omega arith
keys-one g (Some k) ks = sum_by-cons g k ks

-- what is told of keys is told of their reports
keys-reports : (g : Key → ℕ) (url : List ℕ) (fs : List FunctionReport) → sum_by g (filter_map (key_of url) fs) ≡ sum_by (for_report g url) fs
keys-reports g url [] = refl
keys-reports g url (f ∷ fs) =
    keys-one g (key_of url f) (filter_map (key_of url) fs) ∙ ap (λ n. for_report g url f + n) (keys-reports g url fs) ∙ sym (sum_by-cons (for_report g url) f fs)

keys-entries : (g : Key → ℕ) (snapshot : Snapshot) → sum_by g (keys (snapshot ∷ [])) ≡ for_entries g snapshot
keys-entries g snapshot =
    ap (sum_by g) (append-nil (flat_map (λ (entry : Entry). filter_map (key_of entry.url) entry.functions) snapshot))
    ∙ sum-flat g (λ (entry : Entry). filter_map (key_of entry.url) entry.functions) snapshot
    ∙ sum-each (λ (entry : Entry). sum_by g (filter_map (key_of entry.url) entry.functions)) (λ (entry : Entry). for_reports g entry.url entry.functions)
    (λ entry. keys-reports g entry.url entry.functions) snapshot

own-of : (g : Key → ℕ) (q : Key) (url : List ℕ) (f : FunctionReport) → for_report (at-key g q) url f ≡ cond (is_of q url f) (g q) 0
own-of g q url f = by (key_of url f)
  where
    by : (o : Option Key) → for_key (at-key g q) o ≡ cond (unwrap_or (option_map (same_key q) o) false) (g q) 0
    by None = refl
    by (Some k) = refl

-- the reports of one key
own-reports : (w : FunctionReport → ℕ) (q : Key) (snapshot : Snapshot) → sum_by (λ (entry : Entry). sum_by (λ f. cond (is_of q entry.url f) (w f) 0) entry.functions) snapshot ≡ sum_by w (reports_in q snapshot)
own-reports w q snapshot =
    sym (sum-flat w (λ (entry : Entry). filter (is_of q entry.url) entry.functions) snapshot
    ∙ sum-each _ (λ (entry : Entry). sum_by (λ f. cond (is_of q entry.url f) (w f) 0) entry.functions) (λ entry. one-script w (is_of q entry.url) entry.functions) snapshot)

of-one : (g : Key → ℕ) (snapshot : Snapshot) (q : Key) → sum_by (at-key g q) (keys (snapshot ∷ [])) ≡ length (reports_in q snapshot) * g q
of-one g snapshot q =
    keys-entries (at-key g q) snapshot
    ∙ sum-each (λ (entry : Entry). for_reports (at-key g q) entry.url entry.functions) (λ (entry : Entry). sum_by (λ f. cond (is_of q entry.url f) (g q) 0) entry.functions)
    (λ entry. sum-each (for_report (at-key g q) entry.url) (λ f. cond (is_of q entry.url f) (g q) 0) (own-of g q entry.url) entry.functions) snapshot
    ∙ own-reports (λ f. g q) q snapshot
    ∙ sum-same (g q) (reports_in q snapshot)

-- The reports of a snapshot cost what its functions do.
entries-cost : (g : Key → ℕ) (snapshot : Snapshot) → for_entries g snapshot ≤ sum_by (λ q. length (reports_in q snapshot) * g q) (keys_in_order (snapshot ∷ []))
entries-cost g snapshot =
    let ks = keys (snapshot ∷ []) in
    let less = subst (λ n. n ≤ sum_by (λ q. sum_by (at-key g q) ks) (in_order file_order ks)) (keys-entries g snapshot) (by-keys g ks) in
    subst (λ n. for_entries g snapshot ≤ n) (sum-each (λ q. sum_by (at-key g q) ks) (λ q. length (reports_in q snapshot) * g q) (of-one g snapshot) (keys_in_order (snapshot ∷ []))) less

runs-are : (held : List Snapshot) (key : Key) → runs_at (entries_of held) key ≡ held_runs held key
unfolding entries_of
runs-are held key =
    ap runs_held (found (sums_at held) key (keys_in_order held))
    ∙ by (list_any (same_key key) (keys_in_order held))
  where
    by : (b : Bool) → runs_held (cond b (Some (sums_at held key)) None) ≡ cond b (length (maximal_runs key.start key.end (total held key))) 0
    by true = refl
    by false = refl

own-added : (snapshot : Snapshot) (key : Key) → own_all key snapshot ≡ added_runs snapshot key
own-added snapshot key = own-reports report_runs key snapshot

-- what an addition costs
pub all-cost : (held : List Snapshot) (snapshot : Snapshot) (known : List (Key × Sums)) (old new : ℕ) → known ≡ entries_of held
    → ((bound : Key → ℕ) → ((key : Key) → runs_at known key + own_all key snapshot ≤ bound key) → new ≤ old + for_entries bound snapshot)
    → new ≤ old + cost_of held snapshot
unfolding cost_of
all-cost held snapshot known old new are cost =
    let bound : Key → ℕ = λ key. held_runs held key + added_runs snapshot key in
    let spent = cost bound (λ key. let runs = ap (λ es. runs_at es key) are ∙ runs-are held key in let own = own-added snapshot key in omega (arith, runs, own)) in
    let most = entries-cost bound snapshot in
    omega (arith, spent, most)
