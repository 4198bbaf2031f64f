-- Functions put in their places.
use Rattle.std.proofs.Common.{◌≡◌, ℕ, length, ◌++◌, arith, Bool, true, false, List, [], ◌∷◌, refl, sym, ap, ◌∙◌, subst}
use Rattle.std.specs.Prelude.{Option, None, Some, option_map, slice_get, cond, is_some, Result, Ok, Err, is_ok, IsOk}
use Rattle.std.specs.List.{AllByRecursion}
use Rattle.std.specs.List.Sorted.{IsStrictlySortedBy}
use Rattle.std.specs.declared.cmp.Ordering.TheVariants.{Less}
use Rattle.std.specs.Map.{keys_of, lookup}
use Rattle.std.specs.BTreeSet.{BTreeSet}
use Rattle.std.specs.BTreeMap.{insert_entry, is_at}
use Rattle.std.specs.Ordering.{is_eq}
use Rattle.std.proofs.lemmas.Cmp.{tied_itself}
use Rattle.std.proofs.lemmas.Map.Lookups.{btree_set_from_contains}
use Rattle.std.proofs.lemmas.Map.Made.{is_some-lookup}
use Rattle.cov_text.specs.Listing.{first_of}
use Rattle.cov_model.specs.declared.report.FunctionReport.{FunctionReport}
use Rattle.cov_model.specs.declared.report.Range.{Range}
use Rattle.cov_model.specs.declared.sums.Key.{Key}
use Rattle.cov_model.specs.Sums.{file_order, key_of, same_key}
use Rattle.cov_book.proofs.Keyed.{is-at}
use Rattle.cov_book.specs.declared.sums.Sums.{Sums}
use Rattle.cov_book.specs.declared.scripts.Function.{Function}
use Rattle.cov_book.specs.declared.changed.ScriptChange.{ScriptChange}
use Rattle.cov_book.specs.declared.placing.Update.{Update}
use Rattle.cov_book.specs.Room.{changes_in}
use Rattle.cov_book.specs.Listed.{AreInOrder, bare, bare_key, own, own_list}
use Rattle.cov_book.specs.Least.{IsLeastSoFar, comes_before}
use Rattle.cov_model.specs.declared.snapshot.Entry.{Entry}
use Rattle.cov_book.specs.Prepared.{ArePrepared, report_sums, summed, with_key, with_report, with_reports, with_entries}
use Rattle.cov_book.specs.Stretching.{IfRooted}
use Rattle.cov_book.specs.Told.{named}
use Rattle.cov_book.specs.Prepared.{sums_now}
use Rattle.cov_book.proofs.Aligned.{aligned-report}
use Rattle.cov_book.proofs.Ordered.{at-equal, file_total, file_exact}
use Rattle.cov_book.proofs.Preparing.{sorted-put, found-put}
use Rattle.cov_book.proofs.Searched.{insert-own, order-own}
use Rattle.cov_book.proofs.Stretched.{rooted-lookup}

-- the key of a report by its root
pub key-of-root : (url : List ℕ) (f : FunctionReport) (root : Range) → Some root ≡ slice_get f.ranges 0 → key_of url f ≡ Some (named url root.start root.end f.name)
key-of-root url f root is = by f.ranges is
  where
    by : (rs : List Range) → Some root ≡ slice_get rs 0 → option_map (λ (r : Range). named url r.start r.end f.name) (first_of rs) ≡ Some (named url root.start root.end f.name)
    by [] e = absurd cc
    by (r ∷ rest) e = let here : root ≡ r = cc in ap (λ (x : Range). Some (named url x.start x.end f.name)) (sym here)

pub none-of-root : (url : List ℕ) (f : FunctionReport) → None ≡ slice_get f.ranges 0 → key_of url f ≡ None
none-of-root url f is = by f.ranges is
  where
    by : (rs : List Range) → None ≡ slice_get rs 0 → option_map (λ (r : Range). named url r.start r.end f.name) (first_of rs) ≡ None
    by [] e = refl
    by (r ∷ rest) e = absurd cc

pub put-in-order : (g : Function) (old new : List Function) → AreInOrder old → bare new ≡ insert_entry file_order (bare old) (bare_key g) g.sums → AreInOrder new
put-in-order g old new s is = subst (λ es. IsStrictlySortedBy file_order (keys_of es)) (sym is) (sorted-put (bare old) (bare_key g) g.sums s)

-- what is found of a key when a function was put in
pub put-found : (url : List ℕ) (g : Function) (k : Key) (v : Sums) (old new : List Function) → bare new ≡ insert_entry file_order (bare old) (bare_key g) g.sums
    → (own url g).0 ≡ k → g.sums ≡ v
    → (q : Key) → lookup (is_at (file_order q)) (own_list url new) ≡ cond (is_at (file_order k) q) (Some v) (lookup (is_at (file_order q)) (own_list url old))
put-found url g k v old new put here value q =
    ap (lookup (is_at (file_order q))) (insert-own url g old new put)
    ∙ found-put (own_list url old) (own url g).0 g.sums q
    ∙ (λ i. cond (is_at (file_order (here i)) q) (Some (value i)) (lookup (is_at (file_order q)) (own_list url old)))

-- what is known of a report's function goes over the report's root
pub rooted-known : (all : List (Key × Sums)) (functions : Key → Option Sums) (changed : List (Key × Sums)) (least : Option Key) (url : List ℕ) (f : FunctionReport) (k : Key)
    → IsLeastSoFar all functions changed least → key_of url f ≡ Some k → IfRooted (report_sums f).runs.start (report_sums f).runs.end (sums_now functions changed k)
rooted-known all functions changed least url f k so_far is =
    let over = aligned-report url f k is in
    subst (λ o. IfRooted (report_sums f).runs.start (report_sums f).runs.end o) (so_far.prepared.now k)
    (subst (λ n. IfRooted n (report_sums f).runs.end (lookup (is_at (file_order k)) so_far.known)) (sym over.0)
    (subst (λ n. IfRooted k.start n (lookup (is_at (file_order k)) so_far.known)) (sym over.1) (rooted-lookup so_far.known k so_far.prepared.kept.aligned)))

-- ---- maps with the same look-ups

pub none-above : (k : Key) (es : List (Key × Sums)) → AllByRecursion (λ y. file_order k y ≡ Less) (keys_of es) → lookup (is_at (file_order k)) es ≡ None
none-above k [] h = refl
none-above k (e ∷ es) h = ap (λ o. cond (is_eq o) (Some e.1) (lookup (is_at (file_order k)) es)) h.0 ∙ none-above k es h.1

cut : (e f : Key × Sums) (es fs : List (Key × Sums)) (q : Key) → e.0 ≡ f.0
    → AllByRecursion (λ y. file_order e.0 y ≡ Less) (keys_of es) → AllByRecursion (λ y. file_order e.0 y ≡ Less) (keys_of fs)
    → lookup (is_at (file_order q)) (e ∷ es) ≡ lookup (is_at (file_order q)) (f ∷ fs)
    → lookup (is_at (file_order q)) es ≡ lookup (is_at (file_order q)) fs
cut e f es fs q head above beyond same = by (is_at (file_order q) e.0) refl
  where
    by : (b : Bool) → is_at (file_order q) e.0 ≡ b → lookup (is_at (file_order q)) es ≡ lookup (is_at (file_order q)) fs
    by true is =
        let here = file_exact q e.0 (at-equal (file_order q e.0) is) in
        ap (λ k. lookup (is_at (file_order k)) es) here ∙ none-above e.0 es above ∙ sym (none-above e.0 fs beyond) ∙ sym (ap (λ k. lookup (is_at (file_order k)) fs) here)
    by false is =
        sym (ap (λ b. cond b (Some e.1) (lookup (is_at (file_order q)) es)) is)
        ∙ same
        ∙ ap (λ b. cond b (Some f.1) (lookup (is_at (file_order q)) fs)) (ap (is_at (file_order q)) (sym head) ∙ is)

same-lists : (es fs : List (Key × Sums)) → keys_of es ≡ keys_of fs → IsStrictlySortedBy file_order (keys_of es)
    → ((q : Key) → lookup (is_at (file_order q)) es ≡ lookup (is_at (file_order q)) fs) → es ≡ fs
unfolding IsStrictlySortedBy
same-lists [] [] ks sorts same = refl
same-lists [] (f ∷ fs) ks sorts same = absurd cc
same-lists (e ∷ es) [] ks sorts same = absurd cc
same-lists (e ∷ es) (f ∷ fs) ks sorts same =
    let both : e.0 ∷ keys_of es ≡ f.0 ∷ keys_of fs = ks in
    let head : e.0 ≡ f.0 = cc in
    let tail : keys_of es ≡ keys_of fs = cc in
    let here : is_at (file_order e.0) e.0 ≡ true = ap is_eq (tied_itself file_total e.0) in
    let values : Some e.1 ≡ Some f.1 =
    sym (ap (λ b. cond b (Some e.1) (lookup (is_at (file_order e.0)) es)) here)
    ∙ same e.0
    ∙ ap (λ b. cond b (Some f.1) (lookup (is_at (file_order e.0)) fs)) (ap (is_at (file_order e.0)) (sym head) ∙ here) in
    let value : e.1 ≡ f.1 = cc in
    let beyond = subst (AllByRecursion (λ y. file_order e.0 y ≡ Less)) tail sorts.0 in
    let rest = same-lists es fs tail sorts.1 (λ q. cut e f es fs q head sorts.0 beyond (same q)) in
    (λ i. (head i, value i) ∷ rest i)

-- Entries in order with the same look-ups are one list.
pub same-entries : (es fs : List (Key × Sums)) → IsStrictlySortedBy file_order (keys_of es) → IsStrictlySortedBy file_order (keys_of fs)
    → ((q : Key) → lookup (is_at (file_order q)) es ≡ lookup (is_at (file_order q)) fs) → es ≡ fs
same-entries es fs s t same =
    let one : BTreeSet Key = record { keys = keys_of es } in
    let other : BTreeSet Key = record { keys = keys_of fs } in
    same-lists es fs
    (btree_set_from_contains file_total one other s t (λ q. sym (is_some-lookup (is_at (file_order q)) es) ∙ ap is_some (same q) ∙ is_some-lookup (is_at (file_order q)) fs) file_exact)
    s same

-- ---- an addition that no sum stops

sorted-key : (known : List (Key × Sums)) (f : FunctionReport) (o : Option Key) → IsStrictlySortedBy file_order (keys_of known) → IsStrictlySortedBy file_order (keys_of (with_key known f o))
sorted-key known f None s = s
sorted-key known f (Some k) s = sorted-put known k (summed (lookup (is_at (file_order k)) known) (report_sums f)) s

sorted-reports : (known : List (Key × Sums)) (url : List ℕ) (fs : List FunctionReport) → IsStrictlySortedBy file_order (keys_of known) → IsStrictlySortedBy file_order (keys_of (with_reports known url fs))
sorted-reports known url [] s = s
sorted-reports known url (f ∷ fs) s = sorted-reports (with_report known url f) url fs (sorted-key known f (key_of url f) s)

sorted-entries : (known : List (Key × Sums)) (entries : List Entry) → IsStrictlySortedBy file_order (keys_of known) → IsStrictlySortedBy file_order (keys_of (with_entries known entries))
sorted-entries known [] s = s
sorted-entries known (entry ∷ entries) s = sorted-entries (with_reports known entry.url entry.functions) entries (sorted-reports known entry.url entry.functions s)

pub least-prepared : (known : List (Key × Sums)) (entries : List Entry) (functions : Key → Option Sums) (changed : List (Key × Sums)) (least : Option Key) → IsStrictlySortedBy file_order (keys_of known) → least ≡ None
    → IsLeastSoFar (with_entries known entries) functions changed least → ArePrepared (with_entries known entries) functions changed
least-prepared known entries functions changed least s none so_far =
    subst (λ es. ArePrepared es functions changed)
    (sym (same-entries (with_entries known entries) so_far.known (sorted-entries known entries s) so_far.prepared.kept.sorted (λ q. so_far.same q (ap (comes_before q) none)))) so_far.prepared

-- ---- functions behind another one

pub own-sorted : (url : List ℕ) (f : Function) (fs : List Function) → AllByRecursion (λ k. file_order (bare_key f) k ≡ Less) (keys_of (bare fs)) → AllByRecursion (λ k. file_order (own url f).0 k ≡ Less) (keys_of (own_list url fs))
own-sorted url f [] h = tt
own-sorted url f (g ∷ gs) h = (order-own url f.start f.end f.name g ∙ h.0, own-sorted url f gs h.1)

-- ---- calls that can't fail for want of room

pub took : {A E X : Type 0} (r : Result A E) (x a b : X) → IsOk r → x ≡ cond (is_ok r) a b → x ≡ a
took (Ok y) x a b ok e = e
took (Err y) x a b ok e = absurd cc

pub none-left : {A : Type 0} (xs : List A) → length xs ≡ 0 → xs ≡ []
none-left [] e = refl
none-left (x ∷ xs) e = absurd (omega (arith, e))

pub changes-push : (us : List Update) (u : Update) (rest : List ScriptChange) → changes_in (us ++ u ∷ []) ++ rest ≡ changes_in us ++ u.change ∷ rest
changes-push [] u rest = refl
changes-push (x ∷ xs) u rest = ap (λ cs. x.change ∷ cs) (changes-push xs u rest)

pub lookup-same : (k : Key) (es : List (Key × Sums)) → lookup (is_at (file_order k)) es ≡ lookup (same_key k) es
lookup-same k [] = refl
lookup-same k (e ∷ es) = (λ i. cond (is-at k e.0 i) (Some e.1) (lookup-same k es i))
