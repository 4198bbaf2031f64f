-- What was merged in parts, and then merged, is what is merged at once.
use Rattle.std.proofs.Common.{◌≡◌, ℕ, Bool, true, false, List, [], ◌∷◌, ◌++◌, map, refl, sym, ap, ◌∙◌, arith}
use Rattle.std.specs.Prelude.{None, Some, option_map, cond, unwrap_or, ◌||◌, ◌&&◌, ◌==◌, filter, filter_map, flat_map, sum_by}
use Rattle.std.specs.List.{AllByRecursion, list_any, cons_option}
use Rattle.std.specs.List.Sorted.{IsStrictlySortedBy}
use Rattle.std.specs.declared.cmp.Ordering.{Ordering}
use Rattle.std.specs.declared.cmp.Ordering.TheVariants.{Less}
use Rattle.std.specs.Cmp.{IsTotalOrder}
use Rattle.std.proofs.lemmas.Cmp.{tied_itself}
use Rattle.std.proofs.lemmas.List.{append-nil}
use Rattle.std.proofs.lemmas.List.Folds.{flat_map-map, list_any-append}
use Rattle.std.proofs.lemmas.List.Concat.{flat_map_single}
use Rattle.std.proofs.lemmas.List.Sums.{sum_by-cons}
use Rattle.std.proofs.lemmas.Slice.Eq.{bytes_eq-Decides}
use Rattle.cov_model.specs.declared.report.FunctionReport.{FunctionReport}
use Rattle.cov_model.specs.declared.snapshot.Entry.{Entry}
use Rattle.cov_model.specs.declared.snapshot.Snapshot.{Snapshot}
use Rattle.cov_model.specs.declared.sums.Key.{Key}
use Rattle.cov_text.specs.Listing.{first_of, text_cmp, same_text}
use Rattle.cov_model.specs.Nesting.{inner_count}
use Rattle.cov_model.specs.Sums.{urls, keys, urls_in_order, keys_in_order, file_order, key_of, same_key, is_of, reports, root, total, flag, root_count}
use Rattle.cov_model.specs.Nested.{nested}
use Rattle.cov_model.specs.File.{merged_report, merged_entry, scripts, scripts_in}
use Rattle.cov_normal.proofs.Counting.{it_counts}
use Rattle.cov_book.specs.Laws.{MergesInParts}
use Rattle.cov_book.proofs.Agreeing.{Agree, SameSums, no-sums, agree-both, come-to-one}
use Rattle.cov_book.proofs.Having.{is_cons, absent, has-is}
use Rattle.cov_book.proofs.Ordered.{text_total, file_total, text_exact, file_exact, in_order-sorted, any-in_order, same-is, is-same, urls-same, keys-same}

-- ---- what is in a rising list once

none-above : {A : Type 0} (cmp : A → A → Ordering) → IsTotalOrder cmp → (test : A → Bool) (x : A) → ((y : A) → test y ≡ true → x ≡ y) → (ys : List A) → AllByRecursion (λ y. cmp x y ≡ Less) ys → list_any test ys ≡ false
none-above cmp total test x only [] h = refl
none-above cmp total test x only (y ∷ ys) h = by (test y) refl (none-above cmp total test x only ys h.1)
  where
    by : (b : Bool) → test y ≡ b → list_any test ys ≡ false → (test y || list_any test ys) ≡ false
    by true e rest = absurd (let same : cmp x x ≡ Less = ap (cmp x) (only y e) ∙ h.0 in let tied = tied_itself total x in cc)
    by false e rest = ap (λ b. b || list_any test ys) e ∙ rest

once-step : {B : Type 0} (t rest : Bool) (here there all : List B) → (t ≡ true → here ≡ all) → (t ≡ true → rest ≡ false) → (t ≡ false → here ≡ []) → there ≡ cond rest all [] → here ++ there ≡ cond (t || rest) all []
once-step true rest here there all is none nothing e = ap (λ xs. xs ++ there) (is refl) ∙ ap (λ xs. all ++ xs) (e ∙ ap (λ b. cond b all []) (none refl)) ∙ append-nil all
once-step false rest here there all is none nothing e = ap (λ xs. xs ++ there) (nothing refl) ∙ e

-- what is made of one element alone, over a rising list
pub once : {A B : Type 0} (cmp : A → A → Ordering) → IsTotalOrder cmp → (test : A → Bool) (x : A) → ((y : A) → test y ≡ true → x ≡ y) → (g : A → List B) → ((y : A) → test y ≡ false → g y ≡ [])
    → (ys : List A) → IsStrictlySortedBy cmp ys → flat_map g ys ≡ cond (list_any test ys) (g x) []
unfolding IsStrictlySortedBy
once cmp total test x only g none [] h = refl
once cmp total test x only g none (y ∷ ys) h =
    once-step (test y) (list_any test ys) (g y) (flat_map g ys) (g x)
    (λ e. ap g (sym (only y e)))
    (λ e. none-above cmp total test y (λ z t. sym (only y e) ∙ only z t) ys h.0)
    (none y) (once cmp total test x only g none ys h.1)

-- ---- the reports of merged scripts

-- the key of a merged report
abbrev under : List ℕ → Key → Key
under url k = record { url = url; start = k.start; end = k.end; name = k.name }

is_of-merged : (held : List Snapshot) (key : Key) (url : List ℕ) (k : Key) → is_of key url (merged_report held k) ≡ same_key key (under url k)
unfolding nested
is_of-merged held key url k = refl

other-url : (held : List Snapshot) (key : Key) (url : List ℕ) → same_text key.url url ≡ false → (ks : List Key) → filter (is_of key url) (map (merged_report held) ks) ≡ []
other-url held key url e [] = refl
other-url held key url e (k ∷ ks) =
    let rest = filter (is_of key url) (map (merged_report held) ks) in
    let not_one : is_of key url (merged_report held k) ≡ false = is_of-merged held key url k ∙ ap (λ b. b && (key.start == k.start && (key.end == k.end && same_text key.name k.name))) e in
    ap (λ b. cond b (merged_report held k ∷ rest) rest) not_one ∙ other-url held key url e ks

-- the report that is made of one key
abbrev made : List Snapshot → Key → Key → List FunctionReport
made held key k = filter (is_of key key.url) (map (merged_report held) (cond (same_text k.url key.url) (k ∷ []) []))

one-by-one : {A B : Type 0} (p : B → Bool) (f : A → B) (q : A → Bool) (xs : List A) → filter p (map f (filter q xs)) ≡ flat_map (λ x. filter p (map f (cond (q x) (x ∷ []) []))) xs
one-by-one p f q [] = refl
one-by-one p f q (x ∷ xs) =
    elim (q x) as (λ b. filter p (map f (cond b (x ∷ filter q xs) (filter q xs))) ≡ filter p (map f (cond b (x ∷ []) [])) ++ flat_map (λ x. filter p (map f (cond (q x) (x ∷ []) []))) xs) [
      | true ↦
          elim (p (f x)) as (λ b. cond b (f x ∷ filter p (map f (filter q xs))) (filter p (map f (filter q xs))) ≡ cond b (f x ∷ []) [] ++ flat_map (λ x. filter p (map f (cond (q x) (x ∷ []) []))) xs) [
            | true ↦ ap (λ ys. f x ∷ ys) (one-by-one p f q xs)
            | false ↦ one-by-one p f q xs
          ]
      | false ↦ one-by-one p f q xs
    ]

pub text-is : (a b : List ℕ) → same_text a b ≡ true → a ≡ b
text-is a b = (bytes_eq-Decides a b).0

pub is-text : (a b : List ℕ) → a ≡ b → same_text a b ≡ true
is-text a b = (bytes_eq-Decides a b).1

made-none : (held : List Snapshot) (key k : Key) → same_key key k ≡ false → made held key k ≡ []
made-none held key k e = by (same_text k.url key.url) refl
  where
    by : (b : Bool) → same_text k.url key.url ≡ b → filter (is_of key key.url) (map (merged_report held) (cond b (k ∷ []) [])) ≡ []
    by true same =
        let url = text-is k.url key.url same in
        let here : under key.url k ≡ k = (λ i. record { url = sym url i; start = k.start; end = k.end; name = k.name }) in
        ap (λ b. cond b (merged_report held k ∷ []) []) (is_of-merged held key key.url k ∙ ap (same_key key) here ∙ e)
    by false same = refl

made-one : (held : List Snapshot) (key : Key) → made held key key ≡ merged_report held key ∷ []
made-one held key =
    ap (λ b. filter (is_of key key.url) (map (merged_report held) (cond b (key ∷ []) []))) (is-text key.url key.url refl)
    ∙ ap (λ b. cond b (merged_report held key ∷ []) []) (is_of-merged held key key.url key ∙ is-same key key refl)

merged-here : (held : List Snapshot) (key : Key)
    → filter (is_of key key.url) (map (merged_report held) (filter (λ k. same_text k.url key.url) (keys_in_order held))) ≡ cond (list_any (same_key key) (keys_in_order held)) (merged_report held key ∷ []) []
merged-here held key =
    one-by-one (is_of key key.url) (merged_report held) (λ (k : Key). same_text k.url key.url) (keys_in_order held)
    ∙ once file_order file_total (same_key key) key (same-is key) (made held key) (made-none held key) (keys_in_order held) (in_order-sorted file_order file_total (keys held))
    ∙ ap (λ fs. cond (list_any (same_key key) (keys_in_order held)) fs []) (made-one held key)

-- the url of a key stands among the urls

pub or-right : (a b : Bool) → b ≡ true → (a || b) ≡ true
or-right true b e = refl
or-right false b e = e

any-more : {A B C : Type 0} (q : B → Bool) (r : C → Bool) (g : A → List B) (h : A → List C) → ((x : A) → list_any q (g x) ≡ true → list_any r (h x) ≡ true)
    → (xs : List A) → list_any q (flat_map g xs) ≡ true → list_any r (flat_map h xs) ≡ true
any-more q r g h each [] e = absurd cc
any-more q r g h each (x ∷ xs) e =
    list_any-append r (h x) (flat_map h xs) ∙ by (list_any q (g x)) refl (sym (list_any-append q (g x) (flat_map g xs)) ∙ e) (any-more q r g h each xs)
  where
    by : (b : Bool) → list_any q (g x) ≡ b → (list_any q (g x) || list_any q (flat_map g xs)) ≡ true → (list_any q (flat_map g xs) ≡ true → list_any r (flat_map h xs) ≡ true) → (list_any r (h x) || list_any r (flat_map h xs)) ≡ true
    by true is e rest = ap (λ b. b || list_any r (flat_map h xs)) (each x is)
    by false is e rest = or-right (list_any r (h x)) (list_any r (flat_map h xs)) (rest (sym (ap (λ b. b || list_any q (flat_map g xs)) is) ∙ e))

not-of-url : (key : Key) (url : List ℕ) → same_text key.url url ≡ false → (fs : List FunctionReport) → list_any (same_key key) (filter_map (key_of url) fs) ≡ false
not-of-url key url e [] = refl
not-of-url key url e (f ∷ fs) =
    elim (first_of f.ranges) as (λ o. list_any (same_key key) (cons_option (option_map (λ root. record { url = url; start = root.start; end = root.end; name = f.name }) o) (filter_map (key_of url) fs)) ≡ false) [
      | None ↦ not-of-url key url e fs
      | Some root ↦
          ap (λ b. (b && (key.start == root.start && (key.end == root.end && same_text key.name f.name))) || list_any (same_key key) (filter_map (key_of url) fs)) e
          ∙ not-of-url key url e fs
    ]

of-url : (key : Key) (entry : Entry) → list_any (same_key key) (filter_map (key_of entry.url) entry.functions) ≡ true → (same_text key.url entry.url || false) ≡ true
of-url key entry e = by (same_text key.url entry.url) refl
  where
    by : (b : Bool) → same_text key.url entry.url ≡ b → (b || false) ≡ true
    by true is = refl
    by false is = let none = not-of-url key entry.url is entry.functions in absurd cc

pub url-there : (held : List Snapshot) (key : Key) → list_any (same_key key) (keys_in_order held) ≡ true → list_any (same_text key.url) (urls_in_order held) ≡ true
url-there held key e =
    any-in_order text_cmp text_exact (same_text key.url) (urls held)
    ∙ any-more (same_key key) (same_text key.url) (λ (snapshot : Snapshot). flat_map (λ (entry : Entry). filter_map (key_of entry.url) entry.functions) snapshot) (λ (snapshot : Snapshot). map (λ (entry : Entry). entry.url) snapshot)
    (λ snapshot there.
    ap (list_any (same_text key.url)) (sym (flat_map_single (λ (entry : Entry). entry.url) snapshot))
    ∙ any-more (same_key key) (same_text key.url) (λ (entry : Entry). filter_map (key_of entry.url) entry.functions) (λ (entry : Entry). entry.url ∷ []) (of-url key) snapshot there)
    held (sym (any-in_order file_order file_exact (same_key key) (keys held)) ∙ e)

both-there : {A : Type 0} (k u : Bool) (m : List A) → (k ≡ true → u ≡ true) → cond u (cond k m []) [] ≡ cond k m []
both-there true u m h = ap (λ b. cond b m []) (h refl)
both-there false true m h = refl
both-there false false m h = refl

merged-reports : (held : List Snapshot) (key : Key) → reports (scripts held ∷ []) key ≡ cond (list_any (same_key key) (keys_in_order held)) (merged_report held key ∷ []) []
unfolding reports scripts_in
merged-reports held key =
    let us = urls_in_order held in
    let there = list_any (same_text key.url) us in
    let of_url : List ℕ → List Key = λ url. filter (λ (k : Key). same_text k.url url) (keys_in_order held) in
    let g : List ℕ → List FunctionReport = λ url. filter (is_of key url) (map (merged_report held) (of_url url)) in
    append-nil (flat_map (λ (entry : Entry). filter (is_of key entry.url) entry.functions) (map (merged_entry held) us))
    ∙ flat_map-map (λ (entry : Entry). filter (is_of key entry.url) entry.functions) (merged_entry held) us
    ∙ once text_cmp text_total (same_text key.url) key.url (text-is key.url) g (λ url e. other-url held key url e (of_url url)) us (in_order-sorted text_cmp text_total (urls held))
    ∙ ap (λ fs. cond there fs []) (merged-here held key)
    ∙ both-there (list_any (same_key key) (keys_in_order held)) there (merged_report held key ∷ []) (url-there held key)

-- ---- merged scripts have the sums that they were made of

or-false : (a : Bool) → (a || false) ≡ a
or-false true = refl
or-false false = refl

alone : {A : Type 0} (f : A → ℕ) (x : A) → sum_by f (x ∷ []) ≡ f x
alone f x = let one = sum_by-cons f x [] in let none : sum_by f [] ≡ 0 = refl in omega arith

flag-is : (xs : List Snapshot) (k : Key) → flag xs k ≡ list_any (λ (f : FunctionReport). f.block) (reports xs k)
unfolding flag
flag-is xs k = refl

root-is : (xs : List Snapshot) (k : Key) → root xs k ≡ sum_by root_count (reports xs k)
unfolding root
root-is xs k = refl

total-is : (xs : List Snapshot) (k : Key) (o : ℕ) → total xs k o ≡ sum_by (λ (f : FunctionReport). inner_count f.ranges o) (reports xs k)
unfolding total
total-is xs k o = refl

pub merged-root : (held : List Snapshot) (key : Key) → root_count (merged_report held key) ≡ root held key
unfolding nested
merged-root held key = refl

one-report : (held : List Snapshot) (key : Key) → reports (scripts held ∷ []) key ≡ merged_report held key ∷ [] → SameSums (scripts held ∷ []) held key
one-report held key e =
    let merged = merged_report held key in
    let all = scripts held ∷ [] in
    record {
      block = flag-is all key ∙ ap (list_any (λ (f : FunctionReport). f.block)) e ∙ or-false (flag held key);
      count = root-is all key ∙ ap (sum_by root_count) e ∙ alone root_count merged ∙ merged-root held key;
      at = λ o low high.
          total-is all key o ∙ ap (sum_by (λ (f : FunctionReport). inner_count f.ranges o)) e ∙ alone (λ (f : FunctionReport). inner_count f.ranges o) merged
          ∙ ap (λ n. unwrap_or n 0) (it_counts key.start key.end (root held key) (total held key) o low high);
    }

merged-sums : (held : List Snapshot) (key : Key) (b : Bool) → list_any (same_key key) (keys_in_order held) ≡ b → SameSums (scripts held ∷ []) held key
merged-sums held key true e = one-report held key (merged-reports held key ∙ ap (λ b. cond b (merged_report held key ∷ []) []) e)
merged-sums held key false e = no-sums (scripts held ∷ []) held key (merged-reports held key ∙ ap (λ b. cond b (merged_report held key ∷ []) []) e) (absent held key e)

map-urls : (held : List Snapshot) (us : List (List ℕ)) → map (λ (entry : Entry). entry.url) (map (merged_entry held) us) ≡ us
map-urls held [] = refl
map-urls held (u ∷ us) = ap (λ rest. u ∷ rest) (map-urls held us)

merged-urls : (held : List Snapshot) → urls (scripts held ∷ []) ≡ urls_in_order held
unfolding scripts_in
merged-urls held = append-nil (map (λ (entry : Entry). entry.url) (map (merged_entry held) (urls_in_order held))) ∙ map-urls held (urls_in_order held)

cons-cond : {A : Type 0} (b : Bool) (x : A) → is_cons (cond b (x ∷ []) []) ≡ b
cons-cond true x = refl
cons-cond false x = refl

merged-agree : (held : List Snapshot) → Agree (scripts held ∷ []) held
merged-agree held =
    let all = scripts held ∷ [] in
    let by : (key : Key) → SameSums all held key = λ key. merged-sums held key (list_any (same_key key) (keys_in_order held)) refl in
    record {
      urls = urls-same (urls all) (urls held) (λ url. ap (list_any (same_text url)) (merged-urls held) ∙ any-in_order text_cmp text_exact (same_text url) (urls held));
      keys = keys-same (keys all) (keys held)
          (λ key.
          has-is all key ∙ ap is_cons (merged-reports held key) ∙ cons-cond (list_any (same_key key) (keys_in_order held)) (merged_report held key)
          ∙ any-in_order file_order file_exact (same_key key) (keys held));
      flags = λ key. (by key).block;
      roots = λ key. (by key).count;
      totals = λ key. (by key).at;
    }

parts-agree : (parts : List (List Snapshot)) → Agree (map scripts parts) (flat_map (λ part. part) parts)
parts-agree [] = record { urls = refl; keys = refl; flags = λ key. refl; roots = λ key. refl; totals = λ key o low high. refl }
parts-agree (part ∷ rest) = agree-both (scripts part ∷ []) part (map scripts rest) (flat_map (λ p. p) rest) (merged-agree part) (parts-agree rest)

pub merges_in_parts : MergesInParts
merges_in_parts parts = come-to-one (map scripts parts) (flat_map (λ part. part) parts) (parts-agree parts)
