-- Lists of snapshots with the same sums have the same faults, the same file, and the same sums with what is added.
use Rattle.std.proofs.Common.{◌≡◌, ℕ, zero, suc, ◌+◌, ◌-◌, ◌<◌, ◌≤◌, Bool, true, false, List, [], ◌∷◌, ◌++◌, map, refl, sym, ap, ◌∙◌, arith, inl, inr}
use Rattle.std.specs.Prelude.{Some, option_map, cond, min, nat_le, nat_lt, ◌||◌, ◌&&◌, ◌^◌, filter, filter_map, flat_map, find, sum_by}
use Rattle.std.specs.List.{AllByRecursion, list_any, list_all}
use Rattle.std.proofs.lemmas.Bool.{cases_lt}
use Rattle.std.proofs.lemmas.Grind.{flat_map-append}
use Rattle.std.proofs.lemmas.List.Folds.{list_any-append}
use Rattle.cov_model.specs.declared.report.FunctionReport.{FunctionReport}
use Rattle.cov_model.specs.declared.snapshot.Entry.{Entry}
use Rattle.cov_model.specs.declared.snapshot.Snapshot.{Snapshot}
use Rattle.cov_model.specs.declared.sums.Key.{Key}
use Rattle.cov_model.specs.declared.sums.At.{At}
use Rattle.cov_model.specs.declared.sums.At.TheVariants.{Root, Offset}
use Rattle.cov_model.specs.declared.sums.SumFault.{SumFault}
use Rattle.cov_text.specs.Listing.{inserted, counted, offsets, text_cmp, same_text}
use Rattle.cov_model.specs.Nesting.{inner_count}
use Rattle.cov_text.specs.Listing.{limit}
use Rattle.cov_model.specs.Sums.{fits, sum_fault, sums, sum_at, passes_limit, points, urls, keys, urls_in_order, keys_in_order, file_order, key_of, same_key, is_of, reports, root, total, flag, root_count}
use Rattle.cov_model.specs.declared.report.ListForm.{ListForm}
use Rattle.cov_model.specs.declared.report.ListForm.TheVariants.{Nested}
use Rattle.cov_model.specs.Forms.{list_in}
use Rattle.cov_model.specs.File.{report_in, entry_in, scripts_in, file_in}
use Rattle.cov_normal.proofs.Forms.{counts_determine_it}
use Rattle.cov_model.specs.Held.{FunctionSums, Held, sums_of, held_of}
use Rattle.cov_model.proofs.Grows.{sum_at-append}
use Rattle.cov_book.specs.Laws.{ComeToOne}
use Rattle.cov_book.proofs.Merging.{inserted-append}
use Rattle.cov_book.proofs.Having.{absent}
use Rattle.cov_book.proofs.Ordered.{text_exact, file_exact, any-in_order, same-is, urls-same, keys-same}

-- The urls, the functions and the sums are the same.
pub record Agree (one other : List Snapshot) : Type 0 where
  pub urls : urls_in_order one ≡ urls_in_order other
  pub keys : keys_in_order one ≡ keys_in_order other
  pub flags : (key : Key) → flag one key ≡ flag other key
  pub roots : (key : Key) → root one key ≡ root other key
  pub totals : (key : Key) (o : ℕ) → key.start ≤ o → o < key.end → total one key o ≡ total other key o

-- ---- what the sums tell

pick-step : {B : Type 0} (f g : Key → B) (key k : Key) (ks : List Key) (b : Bool) → same_key key k ≡ b → (b || list_any (same_key key) ks) ≡ true
    → f k ≡ g k → (list_any (same_key key) ks ≡ true → f key ≡ g key) → f key ≡ g key
pick-step f g key k ks true is h e rest = let s = same-is key k is in ap f s ∙ e ∙ sym (ap g s)
pick-step f g key k ks false is h e rest = rest h

pick : (f g : Key → FunctionSums) (ks : List Key) → map f ks ≡ map g ks → (key : Key) → list_any (same_key key) ks ≡ true → f key ≡ g key
pick f g [] e key h = absurd cc
pick f g (k ∷ ks) e key h =
    let both : f k ∷ map f ks ≡ g k ∷ map g ks = e in
    let head : f k ≡ g k = cc in
    let tail : map f ks ≡ map g ks = cc in
    pick-step f g key k ks (same_key key k) refl h head (pick f g ks tail key)

at-count : (f g : ℕ → ℕ) (n s : ℕ) → map f (counted s n) ≡ map g (counted s n) → (o : ℕ) → s ≤ o → o < s + n → f o ≡ g o
at-count f g zero s e o low high = absurd (omega arith)
at-count f g (suc n) s e o low high =
    let both : f s ∷ map f (counted (suc s) n) ≡ g s ∷ map g (counted (suc s) n) = e in
    let head : f s ≡ g s = cc in
    let tail : map f (counted (suc s) n) ≡ map g (counted (suc s) n) = cc in
    elim (cases_lt s o) [
      | inl past ↦ at-count f g n (suc s) tail o (omega arith) (omega arith)
      | inr first ↦ let here : o ≡ s = omega arith in ap f here ∙ head ∙ sym (ap g here)
    ]

map-keys : (held : List Snapshot) (ks : List Key) → map (λ (f : FunctionSums). f.key) (map (sums_of held) ks) ≡ ks
map-keys held [] = refl
map-keys held (k ∷ ks) = ap (λ rest. k ∷ rest) (map-keys held ks)

-- a function's sums, in both lists
pub record SameSums (one other : List Snapshot) (key : Key) : Type 0 where
  pub block : flag one key ≡ flag other key
  pub count : root one key ≡ root other key
  pub at : (o : ℕ) → key.start ≤ o → o < key.end → total one key o ≡ total other key o

told-sums : (one other : List Snapshot) (key : Key) → sums_of one key ≡ sums_of other key → SameSums one other key
told-sums one other key e = record {
  block = ap (λ (f : FunctionSums). f.block) e;
  count = ap (λ (f : FunctionSums). f.root) e;
  at = λ o low high. at-count (total one key) (total other key) (key.end - key.start) key.start (ap (λ (f : FunctionSums). f.counts) e) o low (omega arith);
}

pub no-sums : (one other : List Snapshot) (key : Key) → reports one key ≡ [] → reports other key ≡ [] → SameSums one other key
unfolding flag root total
no-sums one other key none nothing =
    let same : reports one key ≡ reports other key = none ∙ sym nothing in
    record {
      block = ap (list_any (λ (f : FunctionReport). f.block)) same;
      count = ap (sum_by root_count) same;
      at = λ o low high. ap (sum_by (λ (f : FunctionReport). inner_count f.ranges o)) same;
    }

pub held-agree : (one other : List Snapshot) → held_of one ≡ held_of other → Agree one other
unfolding held_of
held-agree one other e =
    let ks = keys_in_order one in
    let functions : map (sums_of one) (keys_in_order one) ≡ map (sums_of other) (keys_in_order other) = ap (λ (h : Held). h.functions) e in
    let names : keys_in_order one ≡ keys_in_order other =
    sym (map-keys one (keys_in_order one)) ∙ ap (map (λ (f : FunctionSums). f.key)) functions ∙ map-keys other (keys_in_order other) in
    let sums : map (sums_of one) ks ≡ map (sums_of other) ks = functions ∙ ap (map (sums_of other)) (sym names) in
    let by : (key : Key) (b : Bool) → list_any (same_key key) ks ≡ b → SameSums one other key =
    λ key. elim [
      | true ↦ λ there. told-sums one other key (pick (sums_of one) (sums_of other) ks sums key there)
      | false ↦ λ none. no-sums one other key (absent one key none) (absent other key (ap (list_any (same_key key)) (sym names) ∙ none))
    ] in
    record {
      urls = ap (λ (h : Held). h.urls) e;
      keys = names;
      flags = λ key. (by key (list_any (same_key key) ks) refl).block;
      roots = λ key. (by key (list_any (same_key key) ks) refl).count;
      totals = λ key. (by key (list_any (same_key key) ks) refl).at;
    }

-- ---- the same with what is added

pub flag-append : (xs ys : List Snapshot) (key : Key) → flag (xs ++ ys) key ≡ (flag xs key || flag ys key)
unfolding flag reports
flag-append xs ys key =
    ap (list_any (λ (f : FunctionReport). f.block)) (flat_map-append (λ (snapshot : Snapshot). flat_map (λ (entry : Entry). filter (is_of key entry.url) entry.functions) snapshot) xs ys)
    ∙ list_any-append (λ (f : FunctionReport). f.block) (reports xs key) (reports ys key)

pub urls-append : (xs ys : List Snapshot) → urls_in_order (xs ++ ys) ≡ inserted text_cmp (urls_in_order xs) (urls ys)
urls-append xs ys =
    ap (inserted text_cmp []) (flat_map-append (λ (snapshot : Snapshot). map (λ (entry : Entry). entry.url) snapshot) xs ys)
    ∙ inserted-append text_cmp (urls xs) (urls ys) []

pub keys-append : (xs ys : List Snapshot) → keys_in_order (xs ++ ys) ≡ inserted file_order (keys_in_order xs) (keys ys)
keys-append xs ys =
    ap (inserted file_order []) (flat_map-append (λ (snapshot : Snapshot). flat_map (λ (entry : Entry). filter_map (key_of entry.url) entry.functions) snapshot) xs ys)
    ∙ inserted-append file_order (keys xs) (keys ys) []

pub agree-append : (one other more : List Snapshot) → Agree one other → Agree (one ++ more) (other ++ more)
agree-append one other more same = record {
  urls = urls-append one more ∙ ap (λ known. inserted text_cmp known (urls more)) same.urls ∙ sym (urls-append other more);
  keys = keys-append one more ∙ ap (λ known. inserted file_order known (keys more)) same.keys ∙ sym (keys-append other more);
  flags = λ key. flag-append one more key ∙ ap (λ b. b || flag more key) (same.flags key) ∙ sym (flag-append other more key);
  roots = λ key. sum_at-append one more key Root ∙ ap (λ n. n + root more key) (same.roots key) ∙ sym (sum_at-append other more key Root);
  totals = λ key o low high.
      sum_at-append one more key (Offset o) ∙ ap (λ n. n + total more key o) (same.totals key o low high) ∙ sym (sum_at-append other more key (Offset o));
}

urls-before : (xs one other : List Snapshot) → urls_in_order one ≡ urls_in_order other → urls_in_order (xs ++ one) ≡ urls_in_order (xs ++ other)
urls-before xs one other same =
    let of_each : Snapshot → List (List ℕ) = λ (snapshot : Snapshot). map (λ (entry : Entry). entry.url) snapshot in
    let has : (url : List ℕ) (ys : List Snapshot) → list_any (same_text url) (urls (xs ++ ys)) ≡ (list_any (same_text url) (urls xs) || list_any (same_text url) (urls_in_order ys)) =
    λ url ys.
    ap (list_any (same_text url)) (flat_map-append of_each xs ys) ∙ list_any-append (same_text url) (urls xs) (urls ys)
    ∙ ap (λ b. list_any (same_text url) (urls xs) || b) (sym (any-in_order text_cmp text_exact (same_text url) (urls ys))) in
    urls-same (urls (xs ++ one)) (urls (xs ++ other)) (λ url. has url one ∙ ap (λ us. list_any (same_text url) (urls xs) || list_any (same_text url) us) same ∙ sym (has url other))

keys-before : (xs one other : List Snapshot) → keys_in_order one ≡ keys_in_order other → keys_in_order (xs ++ one) ≡ keys_in_order (xs ++ other)
keys-before xs one other same =
    let of_each : Snapshot → List Key = λ (snapshot : Snapshot). flat_map (λ (entry : Entry). filter_map (key_of entry.url) entry.functions) snapshot in
    let has : (key : Key) (ys : List Snapshot) → list_any (same_key key) (keys (xs ++ ys)) ≡ (list_any (same_key key) (keys xs) || list_any (same_key key) (keys_in_order ys)) =
    λ key ys.
    ap (list_any (same_key key)) (flat_map-append of_each xs ys) ∙ list_any-append (same_key key) (keys xs) (keys ys)
    ∙ ap (λ b. list_any (same_key key) (keys xs) || b) (sym (any-in_order file_order file_exact (same_key key) (keys ys))) in
    keys-same (keys (xs ++ one)) (keys (xs ++ other)) (λ key. has key one ∙ ap (λ ks. list_any (same_key key) (keys xs) || list_any (same_key key) ks) same ∙ sym (has key other))

agree-before : (before one other : List Snapshot) → Agree one other → Agree (before ++ one) (before ++ other)
agree-before before one other same = record {
  urls = urls-before before one other same.urls;
  keys = keys-before before one other same.keys;
  flags = λ key. flag-append before one key ∙ ap (λ b. flag before key || b) (same.flags key) ∙ sym (flag-append before other key);
  roots = λ key. sum_at-append before one key Root ∙ ap (λ n. root before key + n) (same.roots key) ∙ sym (sum_at-append before other key Root);
  totals = λ key o low high.
      sum_at-append before one key (Offset o) ∙ ap (λ n. total before key o + n) (same.totals key o low high) ∙ sym (sum_at-append before other key (Offset o));
}

agree-then : (one other another : List Snapshot) → Agree one other → Agree other another → Agree one another
agree-then one other another a b = record {
  urls = a.urls ∙ b.urls;
  keys = a.keys ∙ b.keys;
  flags = λ key. a.flags key ∙ b.flags key;
  roots = λ key. a.roots key ∙ b.roots key;
  totals = λ key o low high. a.totals key o low high ∙ b.totals key o low high;
}

pub agree-both : (one other more rest : List Snapshot) → Agree one other → Agree more rest → Agree (one ++ more) (other ++ rest)
agree-both one other more rest a b =
    agree-then (one ++ more) (other ++ more) (other ++ rest) (agree-append one other more a) (agree-before other more rest b)

-- ---- the same scripts

report-same : (form : ListForm) (one other : List Snapshot) → Agree one other → (key : Key) → report_in form one key ≡ report_in form other key
report-same form one other same key =
    let ranges : list_in form key.start key.end (root one key) (total one key) ≡ list_in form key.start key.end (root other key) (total other key) =
    ap (λ c. list_in form key.start key.end c (total one key)) (same.roots key) ∙ counts_determine_it form key.start key.end (root other key) (total one key) (total other key) (same.totals key) in
    (λ i. record { name = key.name; block = same.flags key i; ranges = ranges i })

pub map-each : {A B : Type 0} (f g : A → B) → ((x : A) → f x ≡ g x) → (xs : List A) → map f xs ≡ map g xs
map-each f g h [] = refl
map-each f g h (x ∷ xs) = ap (λ y. y ∷ map f xs) (h x) ∙ ap (λ ys. g x ∷ ys) (map-each f g h xs)

entry-same : (form : ListForm) (one other : List Snapshot) → Agree one other → (url : List ℕ) → entry_in form one url ≡ entry_in form other url
entry-same form one other same url =
    let of_url : Key → Bool = λ key. same_text key.url url in
    let functions : map (report_in form one) (filter of_url (keys_in_order one)) ≡ map (report_in form other) (filter of_url (keys_in_order other)) =
    map-each (report_in form one) (report_in form other) (report-same form one other same) (filter of_url (keys_in_order one)) ∙ ap (λ ks. map (report_in form other) (filter of_url ks)) same.keys in
    (λ i. record { url = url; functions = functions i })

pub agree-scripts : (form : ListForm) (one other : List Snapshot) → Agree one other → scripts_in form one ≡ scripts_in form other
unfolding scripts_in
agree-scripts form one other same =
    map-each (entry_in form one) (entry_in form other) (entry-same form one other same) (urls_in_order one) ∙ ap (map (entry_in form other)) same.urls

-- ---- the same faults

All-append : {A : Type 0} (P : A → Type 0) (xs ys : List A) → AllByRecursion P xs → AllByRecursion P ys → AllByRecursion P (xs ++ ys)
All-append P [] ys h k = k
All-append P (x ∷ xs) ys h k = (h.0, All-append P xs ys h.1 k)

All-map : {A B : Type 0} (P : B → Type 0) (g : A → B) (xs : List A) → AllByRecursion (λ x. P (g x)) xs → AllByRecursion P (map g xs)
All-map P g [] h = tt
All-map P g (x ∷ xs) h = (h.0, All-map P g xs h.1)

All-counted : (P : ℕ → Type 0) (n s : ℕ) → ((o : ℕ) → s ≤ o → o < s + n → P o) → AllByRecursion P (counted s n)
All-counted P zero s h = tt
All-counted P (suc n) s h = (h s (omega arith) (omega arith), All-counted P n (suc s) (λ o low high. h o (omega arith) (omega arith)))

All-sums : (P : Key × At → Type 0) → ((key : Key) → P (key, Root)) → ((key : Key) (o : ℕ) → key.start ≤ o → o < key.end → P (key, Offset o))
    → (ks : List Key) → AllByRecursion P (flat_map (λ key. map (λ point. (key, point)) (points key)) ks)
All-sums P root offset [] = tt
All-sums P root offset (k ∷ ks) =
    All-append P (map (λ point. (k, point)) (points k)) (flat_map (λ key. map (λ point. (key, point)) (points key)) ks)
    (All-map P (λ (point : At). (k, point)) (points k)
    (root k, All-map (λ point. P (k, point)) Offset (offsets k.start k.end) (All-counted (λ o. P (k, Offset o)) (k.end - k.start) k.start (λ o low high. offset k o low (omega arith)))))
    (All-sums P root offset ks)

abbrev SameSum : List Snapshot → List Snapshot → Key × At → Type 0
SameSum one other at = sum_at one at.0 at.1 ≡ sum_at other at.0 at.1

pub sums-agree : (one other : List Snapshot) → Agree one other → (ks : List Key) → AllByRecursion (SameSum one other) (flat_map (λ key. map (λ point. (key, point)) (points key)) ks)
sums-agree one other same ks = All-sums (SameSum one other) same.roots same.totals ks

all-same : {A : Type 0} (p q : A → Bool) (P : A → Type 0) → ((x : A) → P x → p x ≡ q x) → (xs : List A) → AllByRecursion P xs → list_all p xs ≡ list_all q xs
all-same p q P h [] a = refl
all-same p q P h (x ∷ xs) a = ap (λ b. b && list_all p xs) (h x a.0) ∙ ap (λ b. q x && b) (all-same p q P h xs a.1)

pub agree-fits : (one other : List Snapshot) → Agree one other → fits one ≡ fits other
unfolding fits
agree-fits one other same =
    all-same (λ (at : Key × At). nat_le (sum_at one at.0 at.1) limit) (λ (at : Key × At). nat_le (sum_at other at.0 at.1) limit) (SameSum one other) (λ at e. ap (λ n. nat_le n limit) e)
    (sums one) (sums-agree one other same (keys_in_order one))
    ∙ ap (λ ks. list_all (λ (at : Key × At). nat_le (sum_at other at.0 at.1) limit) (flat_map (λ key. map (λ point. (key, point)) (points key)) ks)) same.keys

find-same : {A B : Type 0} (p q : A → Bool) (f g : A → B) (P : A → Type 0) → ((x : A) → P x → p x ≡ q x) → ((x : A) → P x → f x ≡ g x)
    → (xs : List A) → AllByRecursion P xs → option_map f (find p xs) ≡ option_map g (find q xs)
find-same p q f g P t u [] a = refl
find-same p q f g P t u (x ∷ xs) a =
    ap (λ b. option_map f (cond b (Some x) (find p xs))) (t x a.0) ∙ by (q x) (u x a.0) (find-same p q f g P t u xs a.1)
  where
    by : (b : Bool) → f x ≡ g x → option_map f (find p xs) ≡ option_map g (find q xs) → option_map f (cond b (Some x) (find p xs)) ≡ option_map g (cond b (Some x) (find q xs))
    by true e rest = ap Some e
    by false e rest = rest

All-both : {A : Type 0} (P Q : A → Type 0) (xs : List A) → AllByRecursion P xs → AllByRecursion Q xs → AllByRecursion (λ x. P x × Q x) xs
All-both P Q [] h k = tt
All-both P Q (x ∷ xs) h k = ((h.0, k.0), All-both P Q xs h.1 k.1)

told : List Snapshot → Snapshot → Key × At → SumFault
told held snapshot at = record { key = at.0; at = at.1; held = sum_at held at.0 at.1; added = min (sum_at (snapshot ∷ []) at.0 at.1) (2 ^ 128 - 1) }

pub agree-fault : (one other : List Snapshot) (snapshot : Snapshot) → Agree one other → sum_fault one snapshot ≡ sum_fault other snapshot
unfolding sum_fault told
agree-fault one other snapshot same =
    let both = one ++ snapshot ∷ [] in
    let all = other ++ snapshot ∷ [] in
    let more = agree-append one other (snapshot ∷ []) same in
    let ks = keys_in_order both in
    find-same (passes_limit both) (passes_limit all) (told one snapshot) (told other snapshot) (λ at. SameSum both all at × SameSum one other at)
    (λ at e. ap (λ n. nat_lt limit n) e.0)
    (λ at e i. record { key = at.0; at = at.1; held = e.1 i; added = min (sum_at (snapshot ∷ []) at.0 at.1) (2 ^ 128 - 1) })
    (sums both) (All-both (SameSum both all) (SameSum one other) (sums both) (sums-agree both all more ks) (sums-agree one other same ks))
    ∙ ap (λ xs. option_map (told other snapshot) (find (passes_limit all) (flat_map (λ key. map (λ point. (key, point)) (points key)) xs))) more.keys

-- ---- the same value

counts-same : (f g : ℕ → ℕ) (n s : ℕ) → ((o : ℕ) → s ≤ o → o < s + n → f o ≡ g o) → map f (counted s n) ≡ map g (counted s n)
counts-same f g zero s h = refl
counts-same f g (suc n) s h =
    ap (λ c. c ∷ map f (counted (suc s) n)) (h s (omega arith) (omega arith)) ∙ ap (λ cs. g s ∷ cs) (counts-same f g n (suc s) (λ o low high. h o (omega arith) (omega arith)))

sums-same : (one other : List Snapshot) → Agree one other → (key : Key) → sums_of one key ≡ sums_of other key
sums-same one other same key =
    let counts = counts-same (total one key) (total other key) (key.end - key.start) key.start (λ o low high. same.totals key o low (omega arith)) in
    (λ i. record { key = key; block = same.flags key i; root = same.roots key i; counts = counts i })

pub agree-held : (one other : List Snapshot) → Agree one other → held_of one ≡ held_of other
unfolding held_of
agree-held one other same =
    let functions = map-each (sums_of one) (sums_of other) (sums-same one other same) (keys_in_order one) ∙ ap (map (sums_of other)) same.keys in
    (λ i. record { urls = same.urls i; functions = functions i })

-- ---- one outcome

pub come-to-one : (one other : List Snapshot) → Agree one other → ComeToOne one other
unfolding file_in
come-to-one one other same = record {
  sums = agree-held one other same;
  fit = agree-fits one other same;
  file = rw (agree-scripts Nested one other same);
}
