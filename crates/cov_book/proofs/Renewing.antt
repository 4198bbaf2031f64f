-- Functions with new sums, and scripts as they would be.
use Rattle.std.proofs.Common.{◌≡◌, ℕ, zero, suc, ◌<◌, ◌≤◌, ◌+◌, ◌-◌, ◌++◌, Bool, true, false, List, [], ◌∷◌, length, take, drop, get_or, refl, sym, ap, ◌∙◌, subst, arith}
use Rattle.std.specs.Prelude.{Option, None, Some, option_map, cond, slice_get, is_some}
use Rattle.std.specs.Option.{option_or, MatchOption}
use Rattle.std.specs.List.{AllByRecursion, insert, list_any, slice_set}
use Rattle.std.specs.List.Sorted.{IsStrictlySortedBy}
use Rattle.std.specs.declared.cmp.Ordering.TheVariants.{Less}
use Rattle.std.specs.BTreeSet.{insert_key}
use Rattle.std.specs.Ordering.{is_lt}
use Rattle.std.specs.Map.{keys_of, lookup}
use Rattle.std.specs.BTreeMap.{insert_entry, is_at}
use Rattle.std.proofs.lemmas.List.{append-nil}
use Rattle.std.proofs.lemmas.Map.Made.{is_some-lookup}
use Rattle.cov_text.specs.Listing.{same_text, text_cmp}
use Rattle.cov_model.specs.declared.sums.Key.{Key}
use Rattle.cov_model.specs.Sums.{file_order, same_key}
use Rattle.cov_book.specs.declared.sums.Sums.{Sums}
use Rattle.cov_book.specs.declared.scripts.Function.{Function}
use Rattle.cov_book.specs.declared.scripts.Script.{Script}
use Rattle.cov_book.specs.declared.changed.FunctionChanges.{FunctionChanges}
use Rattle.cov_book.specs.declared.changed.ScriptChange.{ScriptChange}
use Rattle.cov_book.specs.Told.{named}
use Rattle.cov_book.specs.Prepared.{sums_now}
use Rattle.cov_book.specs.Listed.{AreInOrder, IsPlace, all_listed, bare, bare_key, comes_first, held_in, hit, is_front, is_there, of_url, own, own_list, urls_in}
use Rattle.cov_book.specs.Renewed.{AreChanged, IsFoundAt, IsPut, change_before, changed_script, changed_scripts, changed_urls, is_changed, made, new_at, renewed, renewed_at, renewed_one}
use Rattle.cov_book.specs.Room.{IsPutIn}
use Rattle.cov_book.specs.Least.{IsLeastSoFar}
use Rattle.cov_book.proofs.Ordered.{at-equal, file_exact, same-is, text_total}
use Rattle.cov_book.proofs.Placed.{none-left, put-found, put-in-order}
use Rattle.cov_book.proofs.Searched.{found-place, is-less, lookup-own, put-there}
use Rattle.cov_book.proofs.Joining.{found-append}
use Rattle.cov_book.proofs.Among.{apart, enter, leave, held-next, held-url, less-differs, none-or, none-there, of-url-insert, of-url-set, same-text, text-same, urls-insert}

-- ---- new sums change no key

pub renewed-none : (fs : List Function) → renewed fs [] ≡ fs
renewed-none [] = refl
renewed-none (f ∷ fs) = refl

pub renewed-keys : (url : List ℕ) (fs : List Function) (again : List (Option Sums)) → keys_of (own_list url (renewed fs again)) ≡ keys_of (own_list url fs)
renewed-keys url [] again = refl
renewed-keys url (f ∷ fs) [] = refl
renewed-keys url (f ∷ fs) (None ∷ again) = ap (λ ks. (own url f).0 ∷ ks) (renewed-keys url fs again)
renewed-keys url (f ∷ fs) (Some s ∷ again) = ap (λ ks. (own url f).0 ∷ ks) (renewed-keys url fs again)

pub renewed-in-order : (fs : List Function) (again : List (Option Sums)) → AreInOrder fs → AreInOrder (renewed fs again)
renewed-in-order fs again s = subst (IsStrictlySortedBy file_order) (sym (renewed-keys [] fs again)) s

renewed-all : (k : Key) (b : Bool) (fs : List Function) (again : List (Option Sums)) → AllByRecursion (λ f. comes_first k f ≡ b) fs → AllByRecursion (λ f. comes_first k f ≡ b) (renewed fs again)
renewed-all k b [] again h = tt
renewed-all k b (f ∷ fs) [] h = h
renewed-all k b (f ∷ fs) (None ∷ again) h = (h.0, renewed-all k b fs again h.1)
renewed-all k b (f ∷ fs) (Some s ∷ again) h = (h.0, renewed-all k b fs again h.1)

renewed-front : (k : Key) (fs : List Function) (again : List (Option Sums)) (i : ℕ) → AllByRecursion (λ f. comes_first k f ≡ true) (take i fs) → AllByRecursion (λ f. comes_first k f ≡ true) (take i (renewed fs again))
renewed-front k [] again zero h = tt
renewed-front k [] again (suc i) h = tt
renewed-front k (f ∷ fs) [] i h = h
renewed-front k (f ∷ fs) (o ∷ again) zero h = tt
renewed-front k (f ∷ fs) (None ∷ again) (suc i) h = (h.0, renewed-front k fs again i h.1)
renewed-front k (f ∷ fs) (Some s ∷ again) (suc i) h = (h.0, renewed-front k fs again i h.1)

renewed-back : (k : Key) (fs : List Function) (again : List (Option Sums)) (i : ℕ) → AllByRecursion (λ f. comes_first k f ≡ false) (drop i fs) → AllByRecursion (λ f. comes_first k f ≡ false) (drop i (renewed fs again))
renewed-back k [] again zero h = tt
renewed-back k [] again (suc i) h = tt
renewed-back k (f ∷ fs) [] i h = h
renewed-back k (f ∷ fs) (None ∷ again) zero h = (h.0, renewed-all k false fs again h.1)
renewed-back k (f ∷ fs) (Some s ∷ again) zero h = (h.0, renewed-all k false fs again h.1)
renewed-back k (f ∷ fs) (o ∷ again) (suc i) h = renewed-back k fs again i h

renewed-hit : (k : Key) (fs : List Function) (again : List (Option Sums)) (i : ℕ) → is_some (hit k (slice_get (renewed fs again) i)) ≡ is_some (hit k (slice_get fs i))
renewed-hit k [] again i = refl
renewed-hit k (f ∷ fs) [] i = refl
renewed-hit k (f ∷ fs) (None ∷ again) zero = refl
renewed-hit k (f ∷ fs) (Some s ∷ again) zero = elim (same_key k (bare_key f)) as (λ b. is_some (cond b (Some s) None) ≡ is_some (cond b (Some f.sums) None)) [
  | true ↦ refl
  | false ↦ refl
]
renewed-hit k (f ∷ fs) (o ∷ again) (suc i) = renewed-hit k fs again i

pub renewed-some : (k : Key) (url : List ℕ) (fs : List Function) (again : List (Option Sums)) → is_some (lookup (is_at (file_order k)) (own_list url (renewed fs again))) ≡ is_some (lookup (is_at (file_order k)) (own_list url fs))
renewed-some k url fs again =
    is_some-lookup (is_at (file_order k)) (own_list url (renewed fs again)) ∙ ap (list_any (is_at (file_order k))) (renewed-keys url fs again) ∙ sym (is_some-lookup (is_at (file_order k)) (own_list url fs))

pub none-is : (o : Option Sums) → is_some o ≡ false → o ≡ None
none-is None e = refl
none-is (Some s) e = absurd cc

renewed-missing : (k : Key) (url : List ℕ) (fs : List Function) (again : List (Option Sums)) → lookup (is_at (file_order k)) (own_list url fs) ≡ None → lookup (is_at (file_order k)) (own_list url (renewed fs again)) ≡ None
renewed-missing k url fs again e = none-is (lookup (is_at (file_order k)) (own_list url (renewed fs again))) (renewed-some k url fs again ∙ ap is_some e)

-- ---- the sums of a key, with what is changed

hit-sums : (k : Key) (o : Option Function) (rest other : Option Sums) → is_some (hit k o) ≡ true → option_map (λ (f : Function). f.sums) o ≡ option_or (option_or (hit k o) rest) other
hit-sums k None rest other e = absurd cc
hit-sums k (Some f) rest other e = by (same_key k (bare_key f)) e
  where
    by : (b : Bool) → is_some (cond b (Some f.sums) None) ≡ true → Some f.sums ≡ option_or (option_or (cond b (Some f.sums) None) rest) other
    by true e = refl
    by false e = absurd cc

pub held-made : (url : List ℕ) (s e : ℕ) (n : List ℕ) (held : List Function) (changes : FunctionChanges) (at : ℕ) (other : Option Sums) → AreInOrder held → IsFoundAt (named [] s e n) held (Some at)
    → option_map (λ (f : Function). f.sums) (slice_get (renewed held changes.again.items) at) ≡ option_or (lookup (is_at (file_order (named url s e n))) (own_list url (made held changes))) other
held-made url s e n held changes at other order found =
    let k = named [] s e n in
    let ku = named url s e n in
    let again = changes.again.items in
    let gs = renewed held again in
    let fresh = lookup (is_at (file_order ku)) (own_list url changes.fresh.items) in
    let there : lookup (is_at (file_order ku)) (own_list url gs) ≡ hit k (slice_get gs at) =
    lookup-own url s e n gs ∙ found-place k gs at (renewed-in-order held again order) (renewed-front k held again at found.1.front) (renewed-back k held again at found.1.back) in
    hit-sums k (slice_get gs at) fresh other (renewed-hit k held again at ∙ found.0)
    ∙ sym (ap (λ o. option_or (option_or o fresh) other) there)
    ∙ sym (ap (λ o. option_or o other) (found-append (is_at (file_order ku)) url gs changes.fresh.items))

pub fresh-made : (url : List ℕ) (s e : ℕ) (n : List ℕ) (held : List Function) (changes : FunctionChanges) (other : Option Sums) → IsFoundAt (named [] s e n) held None
    → other ≡ lookup (is_at (file_order (named url s e n))) (own_list url held)
    → lookup (is_at (file_order (named url s e n))) (own_list url changes.fresh.items) ≡ option_or (lookup (is_at (file_order (named url s e n))) (own_list url (made held changes))) other
fresh-made url s e n held changes other found knows =
    let ku = named url s e n in
    let again = changes.again.items in
    let fresh = lookup (is_at (file_order ku)) (own_list url changes.fresh.items) in
    let none : lookup (is_at (file_order ku)) (own_list url held) ≡ None = lookup-own url s e n held ∙ found in
    sym (none-or fresh)
    ∙ sym (ap (option_or fresh) (knows ∙ none))
    ∙ sym (ap (λ o. option_or (option_or o fresh) other) (renewed-missing ku url held again none))
    ∙ sym (ap (λ o. option_or o other) (found-append (is_at (file_order ku)) url (renewed held again) changes.fresh.items))

set-at : (s e : ℕ) (n : List ℕ) (v : Sums) (gs : List Function) (at : ℕ) → is_some (hit (named [] s e n) (slice_get gs at)) ≡ true
    → renewed_at gs at (Some v) ≡ slice_set gs at (record { start = s; end = e; name = n; sums = v })
set-at s e n v [] zero here = absurd cc
set-at s e n v [] (suc at) here = absurd cc
set-at s e n v (f ∷ fs) zero here =
    let k = named [] s e n in
    let same : k ≡ bare_key f = same-is k (bare_key f) (by (same_key k (bare_key f)) here) in
    let of : Key → List Function = λ x. record { start = x.start; end = x.end; name = x.name; sums = v } ∷ fs in
    sym (ap of same)
  where
    by : (b : Bool) → is_some (cond b (Some f.sums) None) ≡ true → b ≡ true
    by true e = refl
    by false e = absurd cc
set-at s e n v (f ∷ fs) (suc at) here = ap (λ gs. f ∷ gs) (set-at s e n v fs at here)

put-over : (b : Bool) (v : Sums) (l f : Option Sums) → option_or (cond b (Some v) l) f ≡ cond b (Some v) (option_or l f)
put-over true v l f = refl
put-over false v l f = refl

put-behind : (b : Bool) (v : Sums) (l f : Option Sums) → (b ≡ true → l ≡ None) → option_or l (cond b (Some v) f) ≡ cond b (Some v) (option_or l f)
put-behind true v l f none = ap (λ o. option_or o (Some v)) (none refl)
put-behind false v l f none = refl

-- what is found of a key when sums were put
pub put-made : (url : List ℕ) (s e : ℕ) (n : List ℕ) (v : Sums) (held : List Function) (place : Option ℕ) (old new : FunctionChanges) → IsFoundAt (named [] s e n) held place → IsPut place (named [] s e n) v old new
    → (q : Key) → lookup (is_at (file_order q)) (own_list url (made held new)) ≡ cond (is_at (file_order (named url s e n)) q) (Some v) (lookup (is_at (file_order q)) (own_list url (made held old)))
put-made url s e n v held (Some at) old new found put q =
    let k = named [] s e n in
    let ku = named url s e n in
    let g : Function = record { start = s; end = e; name = n; sums = v } in
    let p = is_at (file_order q) in
    let gs = renewed held old.again.items in
    let hs = renewed held new.again.items in
    let front = renewed-front k held old.again.items at found.1.front in
    let here : is_some (hit k (slice_get gs at)) ≡ true = renewed-hit k held old.again.items at ∙ found.0 in
    let is : bare hs ≡ insert_entry file_order (bare gs) (bare_key g) v = ap bare (put.0 held ∙ set-at s e n v gs at here) ∙ put-there g gs at front here in
    let there = put-found url g ku v gs hs is refl refl q in
    found-append p url hs new.fresh.items
    ∙ (λ i. option_or (there i) (lookup p (own_list url (put.1 i))))
    ∙ put-over (is_at (file_order ku) q) v (lookup p (own_list url gs)) (lookup p (own_list url old.fresh.items))
    ∙ sym (ap (cond (is_at (file_order ku) q) (Some v)) (found-append p url gs old.fresh.items))
put-made url s e n v held None old new found put q =
    let ku = named url s e n in
    let g : Function = record { start = s; end = e; name = n; sums = v } in
    let p = is_at (file_order q) in
    let gs = renewed held old.again.items in
    let there = put-found url g ku v old.fresh.items new.fresh.items put.1 refl refl q in
    let none : lookup (is_at (file_order ku)) (own_list url gs) ≡ None = renewed-missing ku url held old.again.items (lookup-own url s e n held ∙ found) in
    found-append p url (renewed held new.again.items) new.fresh.items
    ∙ (λ i. option_or (lookup p (own_list url (renewed held (put.0 i)))) (there i))
    ∙ put-behind (is_at (file_order ku) q) v (lookup p (own_list url gs)) (lookup p (own_list url old.fresh.items))
    (λ same. ap (λ x. lookup (is_at (file_order x)) (own_list url gs)) (sym (file_exact ku q (at-equal (file_order ku q) same))) ∙ none)
    ∙ sym (ap (cond (is_at (file_order ku) q) (Some v)) (found-append p url gs old.fresh.items))

pub put-fresh-order : (s e : ℕ) (n : List ℕ) (v : Sums) (place : Option ℕ) (old new : FunctionChanges) → IsPut place (named [] s e n) v old new → AreInOrder old.fresh.items → AreInOrder new.fresh.items
put-fresh-order s e n v (Some at) old new put order = subst AreInOrder (sym put.1) order
put-fresh-order s e n v None old new put order = put-in-order (record { start = s; end = e; name = n; sums = v }) old.fresh.items new.fresh.items order put.1

covers : (r f h : Option Sums) → is_some r ≡ is_some h → option_or r f ≡ option_or (option_or r f) h
covers None f None e = sym (none-or f)
covers None f (Some h) e = absurd cc
covers (Some r) f h e = refl

-- functions with what is changed tell of each that is held
pub made-covers : (url : List ℕ) (held : List Function) (changes : FunctionChanges) (key : Key)
    → lookup (is_at (file_order key)) (own_list url (made held changes)) ≡ option_or (lookup (is_at (file_order key)) (own_list url (made held changes))) (lookup (is_at (file_order key)) (own_list url held))
made-covers url held changes key =
    let p = is_at (file_order key) in
    let both = found-append p url (renewed held changes.again.items) changes.fresh.items in
    both
    ∙ covers (lookup p (own_list url (renewed held changes.again.items))) (lookup p (own_list url changes.fresh.items)) (lookup p (own_list url held)) (renewed-some key url held changes.again.items)
    ∙ sym (ap (λ o. option_or o (lookup p (own_list url held))) both)

-- ---- new sums put one after the other

pub renewed-set : (fs : List Function) (again : List (Option Sums)) (at : ℕ) (v : Sums) → at < length again → renewed fs (slice_set again at (Some v)) ≡ renewed_at (renewed fs again) at (Some v)
renewed-set [] again at v lt = refl
renewed-set (f ∷ fs) [] at v lt = absurd (omega arith)
renewed-set (f ∷ fs) (None ∷ again) zero v lt = refl
renewed-set (f ∷ fs) (Some s ∷ again) zero v lt = refl
renewed-set (f ∷ fs) (o ∷ again) (suc at) v lt = ap (λ gs. renewed_one f o ∷ gs) (renewed-set fs again at v (omega (arith, lt)))

pub renewed-more : (fs : List Function) (again : List (Option Sums)) → renewed fs (again ++ None ∷ []) ≡ renewed fs again
renewed-more [] again = refl
renewed-more (f ∷ fs) [] = ap (λ gs. f ∷ gs) (renewed-none fs)
renewed-more (f ∷ fs) (o ∷ again) = ap (λ gs. renewed_one f o ∷ gs) (renewed-more fs again)

pub renewed-last : (fs : List Function) (again : List (Option Sums)) (o : Option Sums) → renewed (renewed_at fs (length again) o) again ≡ renewed fs (again ++ o ∷ [])
renewed-last [] again o = refl
renewed-last (f ∷ fs) [] None = ap (λ gs. f ∷ gs) (sym (renewed-none fs))
renewed-last (f ∷ fs) [] (Some s) = ap (λ gs. renewed_one f (Some s) ∷ gs) (sym (renewed-none fs))
renewed-last (f ∷ fs) (p ∷ again) o = ap (λ gs. renewed_one f p ∷ gs) (renewed-last fs again o)

pub at-none : (fs : List Function) (at : ℕ) → renewed_at fs at None ≡ fs
at-none [] at = refl
at-none (f ∷ fs) zero = refl
at-none (f ∷ fs) (suc at) = ap (λ gs. f ∷ gs) (at-none fs at)

pub at-past : (fs : List Function) (at : ℕ) (o : Option Sums) → length fs ≤ at → renewed_at fs at o ≡ fs
at-past [] at o le = refl
at-past (f ∷ fs) zero o le = absurd (omega (arith, le))
at-past (f ∷ fs) (suc at) o le = ap (λ gs. f ∷ gs) (at-past fs at o (omega (arith, le)))

pub at-there : (fs : List Function) (at : ℕ) (f : Function) (v : Sums) → slice_get fs at ≡ Some f → renewed_at fs at (Some v) ≡ slice_set fs at (record { start = f.start; end = f.end; name = f.name; sums = v })
at-there [] zero f v e = absurd cc
at-there [] (suc at) f v e = absurd cc
at-there (g ∷ fs) zero f v e = let here : g ≡ f = cc in ap (λ (x : Function). record { start = x.start; end = x.end; name = x.name; sums = v } ∷ fs) here
at-there (g ∷ fs) (suc at) f v e = ap (λ gs. g ∷ gs) (at-there fs at f v e)

pub new-get : (again : List (Option Sums)) (at : ℕ) (o : Option Sums) → slice_get again at ≡ Some o → new_at again at ≡ o
new-get [] zero o e = absurd cc
new-get [] (suc at) o e = absurd cc
new-get (p ∷ again) zero o e = cc
new-get (p ∷ again) (suc at) o e = new-get again at o e

pub new-none : (again : List (Option Sums)) (at : ℕ) → slice_get again at ≡ None → new_at again at ≡ None
new-none [] at e = refl
new-none (p ∷ again) zero e = absurd cc
new-none (p ∷ again) (suc at) e = new-none again at e

pub new-there : (held : List Function) (again : List (Option Sums)) (at : ℕ) (v : Sums) → at < length held → new_at again at ≡ Some v → option_map (λ (f : Function). f.sums) (slice_get (renewed held again) at) ≡ Some v
new-there [] again at v lt e = absurd (omega (arith, lt))
new-there (f ∷ fs) [] at v lt e = absurd cc
new-there (f ∷ fs) (o ∷ again) zero v lt e = ap (λ x. Some (renewed_one f x).sums) e
new-there (f ∷ fs) (o ∷ again) (suc at) v lt e = new-there fs again at v (omega (arith, lt)) e

pub held-there : (held : List Function) (again : List (Option Sums)) (at : ℕ) → new_at again at ≡ None
    → option_map (λ (f : Function). f.sums) (slice_get (renewed held again) at) ≡ option_map (λ (f : Function). f.sums) (slice_get held at)
held-there [] again at e = refl
held-there (f ∷ fs) [] at e = refl
held-there (f ∷ fs) (o ∷ again) zero e = ap (λ x. Some (renewed_one f x).sums) e
held-there (f ∷ fs) (o ∷ again) (suc at) e = held-there fs again at e

-- ---- scripts as they would be

pub urls-changed : (ss : List Script) (cs : List ScriptChange) → urls_in (changed_scripts ss cs) ≡ changed_urls cs
urls-changed ss [] = refl
urls-changed ss (c ∷ cs) = ap (λ us. c.url ∷ us) (urls-changed ss cs)

pub scripts-insert : (ss : List Script) (cs : List ScriptChange) (at : ℕ) (c : ScriptChange) → changed_scripts ss (insert cs at c) ≡ insert (changed_scripts ss cs) at (changed_script ss c)
scripts-insert ss [] zero c = refl
scripts-insert ss [] (suc at) c = refl
scripts-insert ss (d ∷ cs) zero c = refl
scripts-insert ss (d ∷ cs) (suc at) c = ap (λ xs. changed_script ss d ∷ xs) (scripts-insert ss cs at c)

pub scripts-set : (ss : List Script) (cs : List ScriptChange) (at : ℕ) (c : ScriptChange) → changed_scripts ss (slice_set cs at c) ≡ slice_set (changed_scripts ss cs) at (changed_script ss c)
scripts-set ss [] at c = refl
scripts-set ss (d ∷ cs) zero c = refl
scripts-set ss (d ∷ cs) (suc at) c = ap (λ xs. changed_script ss d ∷ xs) (scripts-set ss cs at c)

pub scripts-get : (ss : List Script) (cs : List ScriptChange) (at : ℕ) → slice_get (changed_scripts ss cs) at ≡ option_map (changed_script ss) (slice_get cs at)
scripts-get ss [] zero = refl
scripts-get ss [] (suc at) = refl
scripts-get ss (d ∷ cs) zero = refl
scripts-get ss (d ∷ cs) (suc at) = scripts-get ss cs at

there-changed : (url : List ℕ) (ss : List Script) (o : Option ScriptChange) → is_there url (option_map (changed_script ss) o) ≡ is_changed url o
there-changed url ss None = refl
there-changed url ss (Some c) = refl

pub scripts-there : (url : List ℕ) (ss : List Script) (cs : List ScriptChange) (at : ℕ) → is_there url (slice_get (changed_scripts ss cs) at) ≡ is_changed url (slice_get cs at)
scripts-there url ss cs at = ap (is_there url) (scripts-get ss cs at) ∙ there-changed url ss (slice_get cs at)

scripts-all : (url : List ℕ) (b : Bool) (ss : List Script) (cs : List ScriptChange) → AllByRecursion (λ c. change_before url c ≡ b) cs → AllByRecursion (λ s. is_front url s ≡ b) (changed_scripts ss cs)
scripts-all url b ss [] h = tt
scripts-all url b ss (c ∷ cs) h = (h.0, scripts-all url b ss cs h.1)

pub scripts-front : (url : List ℕ) (ss : List Script) (cs : List ScriptChange) (i : ℕ) → AllByRecursion (λ c. change_before url c ≡ true) (take i cs) → AllByRecursion (λ s. is_front url s ≡ true) (take i (changed_scripts ss cs))
scripts-front url ss [] zero h = tt
scripts-front url ss [] (suc i) h = tt
scripts-front url ss (c ∷ cs) zero h = tt
scripts-front url ss (c ∷ cs) (suc i) h = (h.0, scripts-front url ss cs i h.1)

pub scripts-back : (url : List ℕ) (ss : List Script) (cs : List ScriptChange) (i : ℕ) → AllByRecursion (λ c. change_before url c ≡ false) (drop i cs) → AllByRecursion (λ s. is_front url s ≡ false) (drop i (changed_scripts ss cs))
scripts-back url ss [] zero h = tt
scripts-back url ss [] (suc i) h = tt
scripts-back url ss (c ∷ cs) zero h = (h.0, scripts-all url false ss cs h.1)
scripts-back url ss (c ∷ cs) (suc i) h = scripts-back url ss cs i h

pub all-insert : {A : Type 0} (P : A → Type 0) (xs : List A) (i : ℕ) (x : A) → AllByRecursion P xs → P x → AllByRecursion P (insert xs i x)
all-insert P [] zero x h p = (p, tt)
all-insert P [] (suc i) x h p = (p, tt)
all-insert P (y ∷ ys) zero x h p = (p, h)
all-insert P (y ∷ ys) (suc i) x h p = (h.0, all-insert P ys i x h.1 p)

pub all-set : {A : Type 0} (P : A → Type 0) (xs : List A) (i : ℕ) (x : A) → AllByRecursion P xs → P x → AllByRecursion P (slice_set xs i x)
all-set P [] i x h p = tt
all-set P (y ∷ ys) zero x h p = (p, h.1)
all-set P (y ∷ ys) (suc i) x h p = (h.0, all-set P ys i x h.1 p)

pub all-get : {A : Type 0} (P : A → Type 0) (xs : List A) (i : ℕ) (x : A) → AllByRecursion P xs → slice_get xs i ≡ Some x → P x
all-get P [] zero x h e = absurd cc
all-get P [] (suc i) x h e = absurd cc
all-get P (y ∷ ys) zero x h e = let here : y ≡ x = cc in subst P here h.0
all-get P (y ∷ ys) (suc i) x h e = all-get P ys i x h.1 e

-- the changes of later urls are as before
pub scripts-still : (url : List ℕ) (ss more : List Script) (cs : List ScriptChange) → AllByRecursion (λ u. text_cmp url u ≡ Less) (changed_urls cs) → ((u : List ℕ) → same_text url u ≡ false → of_url u more ≡ of_url u ss)
    → changed_scripts more cs ≡ changed_scripts ss cs
scripts-still url ss more [] lt same = refl
scripts-still url ss more (c ∷ cs) lt same =
    (λ i. record { url = c.url; functions = made (same c.url (less-differs url c.url lt.0) i) c.functions } ∷ scripts-still url ss more cs lt.1 same i)

pub urls-put : (url : List ℕ) (cs : List ScriptChange) (at : ℕ) (c : ScriptChange) → IsPlace (change_before url) cs at → is_changed url (slice_get cs at) ≡ false → c.url ≡ url
    → changed_urls (insert cs at c) ≡ insert_key text_cmp (changed_urls cs) url
urls-put url cs at c place none named =
    let s : Script = record { url = url; functions = (changed_script [] c).functions } in
    let is : changed_script [] c ≡ s = (λ i. record { url = named i; functions = (changed_script [] c).functions }) in
    sym (urls-changed [] (insert cs at c))
    ∙ ap urls_in (scripts-insert [] cs at c ∙ ap (insert (changed_scripts [] cs) at) is)
    ∙ urls-insert s (changed_scripts [] cs) at (scripts-front url [] cs at place.front) (scripts-back url [] cs at place.back) (scripts-there url [] cs at ∙ none)
    ∙ ap (λ us. insert_key text_cmp us url) (urls-changed [] cs)

pub read-at : {A : Type 0} (xs : List A) (i : ℕ) (x : A) → i < length xs → x ≡ get_or xs i x → slice_get xs i ≡ Some x
read-at [] i x lt e = absurd (omega (arith, lt))
read-at (y ∷ ys) zero x lt e = ap Some (sym e)
read-at (y ∷ ys) (suc i) x lt e = read-at ys i x (omega (arith, lt)) e

-- ---- a change that changes nothing

pub made-none : (held : List Function) (changes : FunctionChanges) → changes.again.items ≡ [] → changes.fresh.items ≡ [] → made held changes ≡ held
made-none held changes again fresh = (λ i. renewed held (again i) ++ fresh i) ∙ append-nil (renewed held []) ∙ renewed-none held

or-same : (o : Option Sums) → option_or o o ≡ o
or-same None = refl
or-same (Some s) = refl

pub insert-same : (url : List ℕ) (ss : List Script) (cs : List ScriptChange) (at : ℕ) (c : ScriptChange) → IsStrictlySortedBy text_cmp (urls_in ss) → IsStrictlySortedBy text_cmp (changed_urls cs)
    → IsPlace (change_before url) cs at → is_changed url (slice_get cs at) ≡ false → c.url ≡ url → made (of_url url ss) c.functions ≡ of_url url ss → IsStrictlySortedBy text_cmp (changed_urls (insert cs at c))
    → (key : Key) → sums_now (held_in ss) (all_listed (changed_scripts ss (insert cs at c))) key ≡ sums_now (held_in ss) (all_listed (changed_scripts ss cs)) key
insert-same url ss cs at c sorts order place none named nothing next key = by (same_text url key.url) refl
  where
    p : Key → Bool
    p = is_at (file_order key)

    old : List Script
    old = changed_scripts ss cs

    new : List Script
    new = changed_scripts ss (insert cs at c)

    front : AllByRecursion (λ s. is_front url s ≡ true) (take at old)
    front = scripts-front url ss cs at place.front

    old-sorts : IsStrictlySortedBy text_cmp (urls_in old)
    old-sorts = subst (IsStrictlySortedBy text_cmp) (sym (urls-changed ss cs)) order

    s : Script
    s = record { url = url; functions = of_url url ss }

    made-is : changed_script ss c ≡ s
    made-is = (λ i. record { url = named i; functions = made (of_url (named i) ss) c.functions }) ∙ ap (λ fs. record { url = url; functions = fs }) nothing

    are : of_url key.url new ≡ cond (same_text url key.url) (of_url url ss) (of_url key.url old)
    are = ap (of_url key.url) (scripts-insert ss cs at c ∙ ap (insert old at) made-is) ∙ of-url-insert key.url s old at front

    now : held_in new key ≡ lookup p (own_list key.url (cond (same_text url key.url) (of_url url ss) (of_url key.url old)))
    now = held-url key new (subst (IsStrictlySortedBy text_cmp) (sym (urls-changed ss (insert cs at c))) next) ∙ ap (λ fs. lookup p (own_list key.url fs)) are

    missing : of_url url old ≡ []
    missing = none-there url old at old-sorts front (scripts-back url ss cs at place.back) (scripts-there url ss cs at ∙ none)

    by : (b : Bool) → same_text url key.url ≡ b → option_or (held_in new key) (held_in ss key) ≡ option_or (held_in old key) (held_in ss key)
    by true e =
        let here = text-same url key.url e in
        let all : held_in new key ≡ held_in ss key = now ∙ ap (λ b. lookup p (own_list key.url (cond b (of_url url ss) (of_url key.url old)))) e ∙ ap (λ u. lookup p (own_list key.url (of_url u ss))) here ∙ sym (held-url key ss sorts) in
        let nothing-yet : held_in old key ≡ None = held-url key old old-sorts ∙ ap (λ u. lookup p (own_list key.url (of_url u old))) (sym here) ∙ ap (λ fs. lookup p (own_list key.url fs)) missing in
        ap (λ o. option_or o (held_in ss key)) all ∙ or-same (held_in ss key) ∙ sym (ap (λ o. option_or o (held_in ss key)) nothing-yet)
    by false e =
        ap (λ o. option_or o (held_in ss key)) (now ∙ ap (λ b. lookup p (own_list key.url (cond b (of_url url ss) (of_url key.url old)))) e ∙ sym (held-url key old old-sorts))

-- ---- changes put in their places one after the other

pub rest-changed : (c : ScriptChange) (cs : List ScriptChange) → AreChanged (c ∷ cs) → AreChanged cs
unfolding IsStrictlySortedBy
rest-changed c cs h = record { urls = h.urls.1; fresh = h.fresh.1 }

pub put-next : (c : ScriptChange) (rest : List ScriptChange) (ss more : List Script) → AreChanged (c ∷ rest) → IsPutIn (changed_script ss c) ss more
    → (key : Key) → option_or (held_in (changed_scripts more rest) key) (held_in more key) ≡ option_or (held_in (changed_scripts ss (c ∷ rest)) key) (held_in ss key)
unfolding IsStrictlySortedBy
put-next c rest ss more h put key =
    ap (λ xs. option_or (held_in xs key) (held_in more key)) (scripts-still c.url ss more rest h.urls.0 put.others)
    ∙ held-next (changed_script ss c) (changed_scripts ss rest) ss more (subst (IsStrictlySortedBy text_cmp) (sym (urls-changed ss (c ∷ rest))) h.urls) put.held key

pub renewed-length : (fs : List Function) (again : List (Option Sums)) → length (renewed fs again) ≡ length fs
renewed-length [] again = refl
renewed-length (f ∷ fs) [] = refl
renewed-length (f ∷ fs) (o ∷ again) = ap suc (renewed-length fs again)

pub popped-none : {A : Type 0} (xs : List A) (popped : Option A) (n m : ℕ) → n ≡ length xs → MatchOption popped ((n ≡ 0) × (m ≡ 0)) (λ x. m + 1 ≡ n) → popped ≡ None → xs ≡ []
popped-none xs None n m len case none = none-left xs (sym len ∙ case.0)
popped-none xs (Some x) n m len case none = absurd cc

pub none-changed : AreChanged []
unfolding IsStrictlySortedBy
none-changed = record { urls = tt; fresh = tt }

-- ---- the change of a script, changed in its place

below-get : (P : List ℕ → Type 0) (ss : List Script) (i : ℕ) (s : Script) → AllByRecursion P (urls_in ss) → slice_get ss i ≡ Some s → P s.url
below-get P [] zero s h e = absurd cc
below-get P [] (suc i) s h e = absurd cc
below-get P (x ∷ xs) zero s h e = let here : x ≡ s = cc in subst (λ (y : Script). P y.url) here h.0
below-get P (x ∷ xs) (suc i) s h e = below-get P xs i s h.1 e

-- the functions of a url are those of the script there
of-url-at : (url : List ℕ) (ss : List Script) (i : ℕ) (s : Script) → IsStrictlySortedBy text_cmp (urls_in ss) → slice_get ss i ≡ Some s → s.url ≡ url → of_url url ss ≡ s.functions
unfolding IsStrictlySortedBy
of-url-at url [] zero s sorts e named = absurd cc
of-url-at url [] (suc i) s sorts e named = absurd cc
of-url-at url (x ∷ xs) zero s sorts e named =
    let here : x ≡ s = cc in
    ap (λ b. cond b x.functions (of_url url xs)) (same-text x.url url (ap (λ (y : Script). y.url) here ∙ named)) ∙ ap (λ (y : Script). y.functions) here
of-url-at url (x ∷ xs) (suc i) s sorts e named =
    ap (λ b. cond b x.functions (of_url url xs)) (less-differs x.url url (subst (λ u. text_cmp x.url u ≡ Less) named (below-get (λ u. text_cmp x.url u ≡ Less) xs i s sorts.0 e)))
    ∙ of-url-at url xs i s sorts.1 e named

named-at : (url : List ℕ) (o : Option ScriptChange) (x : ScriptChange) → o ≡ Some x → is_changed url o ≡ true → x.url ≡ url
named-at url None x e here = absurd cc
named-at url (Some y) x e here = let same : y ≡ x = cc in ap (λ (z : ScriptChange). z.url) (sym same) ∙ text-same y.url url here

pub changed-sorts : (ss : List Script) (cs : List ScriptChange) → AreChanged cs → IsStrictlySortedBy text_cmp (urls_in (changed_scripts ss cs))
changed-sorts ss cs h = subst (IsStrictlySortedBy text_cmp) (sym (urls-changed ss cs)) h.urls

pub urls-kept : (cs : List ScriptChange) (at : ℕ) (x : ScriptChange) (changes : FunctionChanges) → slice_get cs at ≡ Some x → changed_urls (slice_set cs at (record { url = x.url; functions = changes })) ≡ changed_urls cs
urls-kept [] at x changes e = refl
urls-kept (y ∷ cs) zero x changes e = let same : y ≡ x = cc in ap (λ (z : ScriptChange). z.url ∷ changed_urls cs) (sym same)
urls-kept (y ∷ cs) (suc at) x changes e = ap (λ us. y.url ∷ us) (urls-kept cs at x changes e)

pub set-changed : (cs : List ScriptChange) (at : ℕ) (x : ScriptChange) (changes : FunctionChanges) → AreChanged cs → slice_get cs at ≡ Some x → AreInOrder changes.fresh.items
    → AreChanged (slice_set cs at (record { url = x.url; functions = changes }))
set-changed cs at x changes h there order = record {
  urls = subst (IsStrictlySortedBy text_cmp) (sym (urls-kept cs at x changes there)) h.urls;
  fresh = all-set (λ (c : ScriptChange). AreInOrder c.functions.fresh.items) cs at (record { url = x.url; functions = changes }) h.fresh order;
}

module _ (all : List (Key × Sums)) (url : List ℕ) (ss : List Script) (held : List Function) (cs : List ScriptChange) (at : ℕ) (x : ScriptChange) (changed : AreChanged cs) (there : slice_get cs at ≡ Some x) (here : is_changed url (slice_get cs at) ≡ true) (is : held ≡ of_url url ss) where
  pub enter-change : (least : Option Key) → IsLeastSoFar all (held_in ss) (all_listed (changed_scripts ss cs)) least
      → IsLeastSoFar all (apart url (changed_scripts ss cs) (held_in ss)) (own_list url (made held x.functions)) least
  enter-change least so_far =
      let named = named-at url (slice_get cs at) x there here in
      let found : of_url url (changed_scripts ss cs) ≡ made (of_url x.url ss) x.functions =
      of-url-at url (changed_scripts ss cs) at (changed_script ss x) (changed-sorts ss cs changed) (scripts-get ss cs at ∙ ap (option_map (changed_script ss)) there) named in
      enter all url (changed_scripts ss cs) ss (changed-sorts ss cs changed) (made held x.functions) least
      (ap (λ fs. made fs x.functions) (is ∙ ap (λ u. of_url u ss) (sym named)) ∙ sym found) so_far

  pub leave-change : (changes : FunctionChanges) (least : Option Key) → IsLeastSoFar all (apart url (changed_scripts ss cs) (held_in ss)) (own_list url (made held changes)) least
      → IsLeastSoFar all (held_in ss) (all_listed (changed_scripts ss (slice_set cs at (record { url = x.url; functions = changes })))) least
  leave-change changes least so_far =
      let named = named-at url (slice_get cs at) x there here in
      let y : ScriptChange = record { url = x.url; functions = changes } in
      let sorts = changed-sorts ss cs changed in
      let later = subst (IsStrictlySortedBy text_cmp) (sym (urls-changed ss (slice_set cs at y) ∙ urls-kept cs at x changes there)) changed.urls in
      let set : (u : List ℕ) → of_url u (changed_scripts ss (slice_set cs at y)) ≡ cond (same_text x.url u) (made (of_url x.url ss) changes) (of_url u (changed_scripts ss cs)) =
      λ u. ap (of_url u) (scripts-set ss cs at y)
      ∙ of-url-set u (changed_script ss y) (changed_scripts ss cs) at sorts (ap (λ v. is_there v (slice_get (changed_scripts ss cs) at)) named ∙ scripts-there url ss cs at ∙ here) in
      let are : (u : List ℕ) → of_url u (changed_scripts ss (slice_set cs at y)) ≡ cond (same_text url u) (made held changes) (of_url u (changed_scripts ss cs)) =
      λ u. set u ∙ (λ i. cond (same_text (named i) u) (made (of_url (named i) ss) changes) (of_url u (changed_scripts ss cs)))
      ∙ ap (λ fs. cond (same_text url u) (made fs changes) (of_url u (changed_scripts ss cs))) (sym is) in
      leave all url (changed_scripts ss cs) ss sorts (made held changes) (changed_scripts ss (slice_set cs at y)) least later are so_far

-- ---- changes whose last comes before a url

are-before : (url : List ℕ) (cs : List ScriptChange) (k : ℕ) (x : ScriptChange) → IsStrictlySortedBy text_cmp (changed_urls cs) → suc k ≡ length cs → slice_get cs k ≡ Some x → change_before url x ≡ true
    → AllByRecursion (λ c. change_before url c ≡ true) cs
unfolding IsStrictlySortedBy
are-before url [] k x s e is lt = absurd (omega arith)
are-before url (c ∷ []) zero x s e is lt = let here : c ≡ x = cc in (subst (λ (y : ScriptChange). change_before url y ≡ true) (sym here) lt, tt)
are-before url (c ∷ []) (suc k) x s e is lt = absurd (omega (arith, e))
are-before url (c ∷ d ∷ cs) zero x s e is lt = absurd (omega (arith, e))
are-before url (c ∷ d ∷ cs) (suc k) x s e is lt =
    let rest = are-before url (d ∷ cs) k x s.1 (omega (arith, e)) is lt in
    (ap is_lt (text_total.trans c.url d.url url s.0.0 (is-less (text_cmp d.url url) rest.0)), rest)

pub are-before-last : (url : List ℕ) (cs : List ScriptChange) (x : ScriptChange) → IsStrictlySortedBy text_cmp (changed_urls cs) → slice_get cs (length cs - 1) ≡ Some x → change_before url x ≡ true
    → AllByRecursion (λ c. change_before url c ≡ true) cs
are-before-last url [] x s is lt = tt
are-before-last url (c ∷ cs) x s is lt = are-before url (c ∷ cs) (length (c ∷ cs) - 1) x s (omega arith) is lt

pub place-last : (url : List ℕ) (cs : List ScriptChange) → AllByRecursion (λ c. change_before url c ≡ true) cs → IsPlace (change_before url) cs (length cs)
place-last url cs h = record { front = front cs h; back = back cs; within = omega arith }
  where
    front : (cs : List ScriptChange) → AllByRecursion (λ c. change_before url c ≡ true) cs → AllByRecursion (λ c. change_before url c ≡ true) (take (length cs) cs)
    front [] h = tt
    front (c ∷ cs) h = (h.0, front cs h.1)

    back : (cs : List ScriptChange) → AllByRecursion (λ c. change_before url c ≡ false) (drop (length cs) cs)
    back [] = tt
    back (c ∷ cs) = back cs
