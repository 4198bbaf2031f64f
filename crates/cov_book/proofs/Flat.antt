-- Scripts in order and the one list of their functions.
use Rattle.std.proofs.Common.{◌≡◌, ℕ, zero, suc, ◌+◌, ◌<◌, ◌≤◌, Bool, true, false, List, [], ◌∷◌, ◌++◌, map, length, get_or, drop, refl, sym, ap, ◌∙◌, subst, arith}
use Rattle.std.specs.Prelude.{cond, filter, ◌||◌, sum_by, Result, Ok, Err, IfOk}
use Rattle.std.specs.List.{AllByRecursion, list_any}
use Rattle.std.specs.List.Sorted.{IsStrictlySortedBy}
use Rattle.std.specs.declared.cmp.Ordering.TheVariants.{Less}
use Rattle.std.specs.Ordering.{ordering_then, nat_cmp}
use Rattle.std.specs.Map.{keys_of}
use Rattle.std.specs.BTreeSet.{BTreeSet}
use Rattle.std.specs.BTreeMap.{is_at}
use Rattle.std.proofs.lemmas.List.{append-nil, append_assoc, drop_more, drop_all, length-append, length-map}
use Rattle.std.proofs.lemmas.List.Sums.{sum_by-append, sum_by-cons}
use Rattle.std.proofs.lemmas.List.Elements.{filter-append}
use Rattle.std.proofs.lemmas.Map.Lookups.{btree_set_from_contains}
use Rattle.cov_text.specs.Listing.{in_order, inserted, same_text, text_cmp}
use Rattle.cov_model.specs.declared.report.ListForm.{ListForm}
use Rattle.cov_model.specs.declared.snapshot.Entry.{Entry}
use Rattle.cov_model.specs.declared.snapshot.Snapshot.{Snapshot}
use Rattle.std.specs.Option.{option_or}
use Rattle.cov_book.specs.Urls.{urls_of, with_urls}
use Rattle.cov_model.specs.declared.sums.Key.{Key}
use Rattle.cov_model.specs.Sums.{file_order}
use Rattle.cov_book.specs.declared.sums.Sums.{Sums}
use Rattle.cov_book.specs.declared.scripts.Function.{Function}
use Rattle.cov_book.specs.declared.scripts.Script.{Script}
use Rattle.cov_book.specs.Listed.{AreInOrder, AreSorted, bare, bare_key, own, own_list, listed, all_listed, urls_in, of_url, held_in, told_script}
use Rattle.cov_book.specs.Prepared.{AreAligned, ArePrepared, AreWithin, IsAligned, told_report, told_entry, with_entries}
use Rattle.cov_book.proofs.Among.{later-none, less-differs, same-text, text-same}
use Rattle.cov_book.proofs.Ordered.{any-in_order, any-inserted, sorted-inserted, text_exact, text_total}
use Rattle.cov_book.proofs.Placed.{same-entries}
use Rattle.cov_book.proofs.Searched.{order-own}

-- ---- in order

to-own : (url : List ℕ) (f : Function) (fs : List Function) → AllByRecursion (λ k. file_order (bare_key f) k ≡ Less) (keys_of (bare fs)) → AllByRecursion (λ k. file_order (own url f).0 k ≡ Less) (keys_of (own_list url fs))
to-own url f [] h = tt
to-own url f (g ∷ gs) h = (order-own url f.start f.end f.name g ∙ h.0, to-own url f gs h.1)

from-own : (url : List ℕ) (f : Function) (fs : List Function) (rest : List (Key × Sums)) → AllByRecursion (λ k. file_order (own url f).0 k ≡ Less) (keys_of (own_list url fs ++ rest)) → AllByRecursion (λ k. file_order (bare_key f) k ≡ Less) (keys_of (bare fs))
from-own url f [] rest h = tt
from-own url f (g ∷ gs) rest h = (sym (order-own url f.start f.end f.name g) ∙ h.0, from-own url f gs rest h.1)

-- functions of a url come before those of later ones
before-later : (k : Key) (rest : List (Key × Sums)) → AllByRecursion (λ (q : Key). text_cmp k.url q.url ≡ Less) (keys_of rest) → AllByRecursion (λ q. file_order k q ≡ Less) (keys_of rest)
before-later k [] h = tt
before-later k (e ∷ es) h = (ap (λ o. ordering_then o (ordering_then (nat_cmp k.start e.0.start) (ordering_then (nat_cmp e.0.end k.end) (text_cmp k.name e.0.name)))) h.0, before-later k es h.1)

all-append : (P : Key → Type 0) (xs ys : List (Key × Sums)) → AllByRecursion P (keys_of xs) → AllByRecursion P (keys_of ys) → AllByRecursion P (keys_of (xs ++ ys))
all-append P [] ys h k = k
all-append P (x ∷ xs) ys h k = (h.0, all-append P xs ys h.1 k)

sorted-front : (url : List ℕ) (fs : List Function) (rest : List (Key × Sums)) → AreInOrder fs → AllByRecursion (λ (q : Key). text_cmp url q.url ≡ Less) (keys_of rest) → IsStrictlySortedBy file_order (keys_of rest)
    → IsStrictlySortedBy file_order (keys_of (own_list url fs ++ rest))
unfolding IsStrictlySortedBy
sorted-front url [] rest h later s = s
sorted-front url (f ∷ fs) rest h later s =
    (all-append (λ q. file_order (own url f).0 q ≡ Less) (own_list url fs) rest (to-own url f fs h.0) (before-later (own url f).0 rest later), sorted-front url fs rest h.1 later s)

later-keys : (url : List ℕ) (ss : List Script) → AllByRecursion (λ u. text_cmp url u ≡ Less) (urls_in ss) → AllByRecursion (λ (q : Key). text_cmp url q.url ≡ Less) (keys_of (all_listed ss))
later-keys url [] h = tt
later-keys url (s ∷ ss) h = all-append (λ (q : Key). text_cmp url q.url ≡ Less) (listed s) (all_listed ss) (each s.functions) (later-keys url ss h.1)
  where
    each : (fs : List Function) → AllByRecursion (λ (q : Key). text_cmp url q.url ≡ Less) (keys_of (own_list s.url fs))
    each [] = tt
    each (f ∷ fs) = (h.0, each fs)

pub all-sorted : (ss : List Script) → AreSorted ss → IsStrictlySortedBy file_order (keys_of (all_listed ss))
unfolding IsStrictlySortedBy
all-sorted ss h = each ss h.urls h.functions
  where
    each : (ss : List Script) → IsStrictlySortedBy text_cmp (urls_in ss) → AllByRecursion (λ (s : Script). AreInOrder s.functions) ss → IsStrictlySortedBy file_order (keys_of (all_listed ss))
    each [] u f = tt
    each (s ∷ ss) u f = sorted-front s.url s.functions (all_listed ss) f.0 (later-keys s.url ss u.0) (each ss u.1 f.1)

sorted-parts : (url : List ℕ) (fs : List Function) (rest : List (Key × Sums)) → IsStrictlySortedBy file_order (keys_of (own_list url fs ++ rest)) → AreInOrder fs × IsStrictlySortedBy file_order (keys_of rest)
unfolding IsStrictlySortedBy
sorted-parts url [] rest h = (tt, h)
sorted-parts url (f ∷ fs) rest h = let more = sorted-parts url fs rest h.1 in ((from-own url f fs rest h.0, more.0), more.1)

pub scripts-sorted : (ss : List Script) → IsStrictlySortedBy text_cmp (urls_in ss) → IsStrictlySortedBy file_order (keys_of (all_listed ss)) → AreSorted ss
scripts-sorted ss urls sorts = record { urls = urls; functions = each ss sorts }
  where
    each : (ss : List Script) → IsStrictlySortedBy file_order (keys_of (all_listed ss)) → AllByRecursion (λ (s : Script). AreInOrder s.functions) ss
    each [] h = tt
    each (s ∷ ss) h = let parts = sorted-parts s.url s.functions (all_listed ss) h in (parts.0, each ss parts.1)

-- ---- urls put in once are urls put in

pub urls-once : (known xs : List (List ℕ)) → IsStrictlySortedBy text_cmp known → inserted text_cmp known (in_order text_cmp xs) ≡ inserted text_cmp known xs
urls-once known xs sorts =
    let s : BTreeSet (List ℕ) = record { keys = inserted text_cmp known (in_order text_cmp xs) } in
    let t : BTreeSet (List ℕ) = record { keys = inserted text_cmp known xs } in
    btree_set_from_contains text_total s t (sorted-inserted text_cmp text_total (in_order text_cmp xs) known sorts) (sorted-inserted text_cmp text_total xs known sorts)
    (λ q.
    any-inserted text_cmp text_exact (is_at (text_cmp q)) (in_order text_cmp xs) known
    ∙ ap (λ b. b || list_any (is_at (text_cmp q)) known) (any-in_order text_cmp text_exact (is_at (text_cmp q)) xs)
    ∙ sym (any-inserted text_cmp text_exact (is_at (text_cmp q)) xs known))
    text_exact

-- ---- the functions of a url, told

both-nil : {A : Type 0} (b : Bool) → ◌≡◌ {A = List A} (cond b [] []) []
both-nil true = refl
both-nil false = refl

own-filter : (url u : List ℕ) (fs : List Function) → filter (λ (e : Key × Sums). same_text e.0.url u) (own_list url fs) ≡ cond (same_text url u) (own_list url fs) []
own-filter url u [] = sym (both-nil (same_text url u))
own-filter url u (f ∷ fs) = ap (cond (same_text url u) (own url f ∷ filter (λ (e : Key × Sums). same_text e.0.url u) (own_list url fs))) (own-filter url u fs) ∙ ap (λ es. cond (same_text url u) (own url f ∷ es) (cond (same_text url u) (own_list url fs) [])) (own-filter url u fs) ∙ by (same_text url u)
  where
    by : (b : Bool) → cond b (own url f ∷ cond b (own_list url fs) []) (cond b (own_list url fs) []) ≡ cond b (own url f ∷ own_list url fs) []
    by true = refl
    by false = refl

filter-listed : (u : List ℕ) (ss : List Script) → IsStrictlySortedBy text_cmp (urls_in ss) → filter (λ (e : Key × Sums). same_text e.0.url u) (all_listed ss) ≡ own_list u (of_url u ss)
unfolding IsStrictlySortedBy
filter-listed u [] h = refl
filter-listed u (s ∷ ss) h =
    filter-append (λ (e : Key × Sums). same_text e.0.url u) (listed s) (all_listed ss)
    ∙ (λ i. own-filter s.url u s.functions i ++ filter-listed u ss h.1 i)
    ∙ by (same_text s.url u) refl
  where
    nil : {A : Type 0} (xs ys : List A) → ys ≡ [] → xs ++ ys ≡ xs
    nil [] ys e = e
    nil (x ∷ xs) ys e = ap (λ l. x ∷ l) (nil xs ys e)

    by : (b : Bool) → same_text s.url u ≡ b → cond b (listed s) [] ++ own_list u (of_url u ss) ≡ own_list u (cond b s.functions (of_url u ss))
    by true e =
        let here = text-same s.url u e in
        nil (listed s) (own_list u (of_url u ss)) (ap (own_list u) (later-none u ss (subst (λ v. AllByRecursion (λ w. text_cmp v w ≡ Less) (urls_in ss)) here h.0)))
        ∙ ap (λ v. own_list v s.functions) here
    by false e = refl

abbrev told_of : ListForm → List ℕ → List Function → Entry
told_of form u fs = record { url = u; functions = map (λ f. told_report form (own u f)) fs }

own-told : (form : ListForm) (u : List ℕ) (fs : List Function) → map (told_report form) (own_list u fs) ≡ map (λ f. told_report form (own u f)) fs
own-told form u [] = refl
own-told form u (f ∷ fs) = ap (λ rs. told_report form (own u f) ∷ rs) (own-told form u fs)

-- what is made of each url and its functions is made of each script
by-urls : {X : Type 0} (g : List ℕ → List Function → X) (ss : List Script) → IsStrictlySortedBy text_cmp (urls_in ss) → map (λ u. g u (of_url u ss)) (urls_in ss) ≡ map (λ (s : Script). g s.url s.functions) ss
unfolding IsStrictlySortedBy
by-urls g [] h = refl
by-urls g (s ∷ ss) h = (λ i. g s.url (cond (same-text s.url s.url refl i) s.functions (of_url s.url ss)) ∷ (rest (urls_in ss) h.0 ∙ by-urls g ss h.1) i)
  where
    rest : (us : List (List ℕ)) → AllByRecursion (λ u. text_cmp s.url u ≡ Less) us → map (λ u. g u (of_url u (s ∷ ss))) us ≡ map (λ u. g u (of_url u ss)) us
    rest [] lt = refl
    rest (u ∷ us) lt = (λ i. g u (cond (less-differs s.url u lt.0 i) s.functions (of_url u ss)) ∷ rest us lt.1 i)

entries-told : (form : ListForm) (ss : List Script) → IsStrictlySortedBy text_cmp (urls_in ss) → (us : List (List ℕ)) → map (told_entry form (all_listed ss)) us ≡ map (λ u. told_of form u (of_url u ss)) us
entries-told form ss h [] = refl
entries-told form ss h (u ∷ us) = (λ i. record { url = u; functions = (ap (map (told_report form)) (filter-listed u ss h) ∙ own-told form u (of_url u ss)) i } ∷ entries-told form ss h us i)

-- each script is told as the functions of its url are
pub told-scripts : (form : ListForm) (ss : List Script) → IsStrictlySortedBy text_cmp (urls_in ss) → map (told_script form) ss ≡ map (told_entry form (all_listed ss)) (urls_in ss)
told-scripts form ss h = sym (entries-told form ss h (urls_in ss) ∙ by-urls (told_of form) ss h)

-- ---- the runs of each function go over its root

all-split : (P : Key × Sums → Type 0) (xs ys : List (Key × Sums)) → AllByRecursion P (xs ++ ys) → AllByRecursion P xs × AllByRecursion P ys
all-split P [] ys h = (tt, h)
all-split P (x ∷ xs) ys h = let rest = all-split P xs ys h.1 in ((h.0, rest.0), rest.1)

pub aligned-each : (ss : List Script) → AreAligned (all_listed ss) → AllByRecursion (λ s. AreAligned (listed s)) ss
aligned-each [] h = tt
aligned-each (s ∷ ss) h = let parts = all-split IsAligned (listed s) (all_listed ss) h in (parts.0, aligned-each ss parts.1)

pub aligned-bare : (url : List ℕ) (fs : List Function) → AreAligned (own_list url fs) → AreAligned (bare fs)
aligned-bare url [] h = tt
aligned-bare url (f ∷ fs) h = (h.0, aligned-bare url fs h.1)

pub all-here : {A : Type 0} (P : A → Type 0) (xs : List A) (k : ℕ) (x : A) → AllByRecursion P xs → k < length xs → x ≡ get_or xs k x → P x
all-here P [] k x h lt is = absurd (omega arith)
all-here P (y ∷ ys) zero x h lt is = subst P (sym is) h.0
all-here P (y ∷ ys) (suc k) x h lt is = all-here P ys k x h.1 (omega (arith, lt)) is

pub drop-nil : {A B : Type 0} (f : A → B) (ys zs : List B) (xs : List A) (k : ℕ) → length xs ≤ k → ys ++ map f (drop k xs) ≡ zs → ys ≡ zs
drop-nil f ys zs xs k le e = sym (append-nil ys) ∙ ap (λ l. ys ++ map f l) (sym (drop_all k xs le)) ∙ e

pub told-next : {A B : Type 0} (f : A → B) (ys next zs : List B) (y : B) (xs : List A) (k : ℕ) (x : A) → k < length xs → x ≡ get_or xs k x → next ≡ ys ++ y ∷ [] → y ≡ f x
    → ys ++ map f (drop k xs) ≡ zs → next ++ map f (drop (k + 1) xs) ≡ zs
told-next f ys next zs y xs k x lt is pushed made e =
    ap (λ l. l ++ map f (drop (k + 1) xs)) pushed ∙ append_assoc ys (y ∷ []) (map f (drop (k + 1) xs)) ∙ ap (λ z. ys ++ z ∷ map f (drop (k + 1) xs)) made
    ∙ ap (λ l. ys ++ map f l) (sym (drop_more xs k x lt ∙ ap (λ z. z ∷ drop (k + 1) xs) (sym is))) ∙ e

-- ---- what a script's functions add to counts

pub count-more : (s : Script) (ss : List Script) → length (all_listed (s ∷ ss)) ≡ length s.functions + length (all_listed ss)
count-more s ss = length-append (listed s) (all_listed ss) ∙ ap (λ n. n + length (all_listed ss)) (length-map s.functions (own s.url))

pub sum-more : (w : Key × Sums → ℕ) → ((url : List ℕ) (f : Function) → w (own url f) ≡ w (own [] f)) → (s : Script) (ss : List Script) → sum_by w (all_listed (s ∷ ss)) ≡ sum_by w (bare s.functions) + sum_by w (all_listed ss)
sum-more w same s ss = sum_by-append w (listed s) (all_listed ss) ∙ ap (λ n. n + sum_by w (all_listed ss)) (each s.functions)
  where
    each : (fs : List Function) → sum_by w (own_list s.url fs) ≡ sum_by w (bare fs)
    each [] = refl
    each (f ∷ fs) = sum_by-cons w (own s.url f) (own_list s.url fs) ∙ (λ i. same s.url f i + each fs i) ∙ sym (sum_by-cons w (own [] f) (bare fs))

-- ---- an addition

added-all : (old changed new : List Script) (s : Snapshot) → AreSorted new → ArePrepared (with_entries (all_listed old) s) (held_in old) (all_listed changed)
    → ((key : Key) → held_in new key ≡ option_or (held_in changed key) (held_in old key)) → all_listed new ≡ with_entries (all_listed old) s
added-all old changed new s sorted prepared put = same-entries (all_listed new) (with_entries (all_listed old) s) (all-sorted new sorted) prepared.kept.sorted (λ q. put q ∙ sym (prepared.now q))

added-urls : (old changed new : List Script) (s : Snapshot) → IsStrictlySortedBy text_cmp (urls_in old) → urls_in changed ≡ in_order text_cmp (urls_of s) → urls_in new ≡ inserted text_cmp (urls_in old) (urls_in changed) → urls_in new ≡ with_urls (urls_in old) s
added-urls old changed new s sorts are put = put ∙ ap (inserted text_cmp (urls_in old)) are ∙ urls-once (urls_in old) (urls_of s) sorts

-- the scripts are those with the snapshot
pub record IsAdded (old new : List Script) (s : Snapshot) : Type 0 where
  pub urls : urls_in new ≡ with_urls (urls_in old) s
  pub entries : all_listed new ≡ with_entries (all_listed old) s
  pub within : AreWithin (all_listed new)

pub added : (old changed new : List Script) (s : Snapshot) → IsStrictlySortedBy text_cmp (urls_in old) → AreSorted new → ArePrepared (with_entries (all_listed old) s) (held_in old) (all_listed changed)
    → urls_in changed ≡ in_order text_cmp (urls_of s) → ((key : Key) → held_in new key ≡ option_or (held_in changed key) (held_in old key))
    → urls_in new ≡ inserted text_cmp (urls_in old) (urls_in changed) → IsAdded old new s
added old changed new s sorts sorted prepared are held urls =
    let entries = added-all old changed new s sorted prepared held in
    record {
      urls = added-urls old changed new s sorts are urls;
      entries = entries;
      within = subst AreWithin (sym entries) prepared.kept.within;
    }

pub told-all : {E : Type 0} (form : ListForm) (ss lent : List Script) (r : Result Snapshot E) → IsStrictlySortedBy text_cmp (urls_in ss) → lent ≡ ss → IfOk r (λ snapshot. snapshot ≡ map (told_script form) lent)
    → IfOk r (λ snapshot. snapshot ≡ map (told_entry form (all_listed ss)) (urls_in ss))
told-all form ss lent (Ok x) h same is = is ∙ ap (map (told_script form)) same ∙ told-scripts form ss h
told-all form ss lent (Err e) h same is = tt

-- ---- scripts in order are told by their urls and the list of their functions

abbrev back : Key × Sums → Function
back e = record { start = e.0.start; end = e.0.end; name = e.0.name; sums = e.1 }

there-and-back : (u : List ℕ) (fs : List Function) → map back (own_list u fs) ≡ fs
there-and-back u [] = refl
there-and-back u (f ∷ fs) = ap (λ gs. f ∷ gs) (there-and-back u fs)

abbrev made : List ℕ → List Function → Script
made u fs = record { url = u; functions = fs }

same-map : (ss : List Script) → map (λ (s : Script). made s.url s.functions) ss ≡ ss
same-map [] = refl
same-map (s ∷ ss) = ap (λ xs. s ∷ xs) (same-map ss)

pub scripts-told : (one other : List Script) → IsStrictlySortedBy text_cmp (urls_in one) → IsStrictlySortedBy text_cmp (urls_in other) → urls_in one ≡ urls_in other → all_listed one ≡ all_listed other → one ≡ other
scripts-told one other s t urls listed =
    let functions : (u : List ℕ) → of_url u one ≡ of_url u other =
    λ u.
    sym (there-and-back u (of_url u one))
    ∙ ap (map back) (sym (filter-listed u one s) ∙ ap (filter (λ (e : Key × Sums). same_text e.0.url u)) listed ∙ filter-listed u other t)
    ∙ there-and-back u (of_url u other) in
    sym (by-urls made one s ∙ same-map one) ∙ each functions (urls_in one) ∙ ap (map (λ u. made u (of_url u other))) urls ∙ by-urls made other t ∙ same-map other
  where
    each : ((u : List ℕ) → of_url u one ≡ of_url u other) → (us : List (List ℕ)) → map (λ u. made u (of_url u one)) us ≡ map (λ u. made u (of_url u other)) us
    each h [] = refl
    each h (u ∷ us) = (λ i. made u (h u i) ∷ each h us i)
