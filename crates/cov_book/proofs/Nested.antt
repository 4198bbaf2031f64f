-- Merged scripts nest where those held do.
use Rattle.std.proofs.Common.{◌≡◌, ℕ, zero, suc, ◌<◌, ◌≤◌, Bool, true, false, List, [], ◌∷◌, ◌++◌, map, refl, sym, arith, length, subst, get_or}
use Rattle.std.specs.Prelude.{Option, None, Some, option_map, nat_lt, cond, filter, filter_map, flat_map}
use Rattle.std.specs.List.{AllByRecursion, cons_option}
use Rattle.std.specs.declared.cmp.Ordering.{Ordering}
use Rattle.std.specs.declared.cmp.Ordering.TheVariants.{Less, Equal, Greater}
use Rattle.std.specs.Ordering.{match_ordering}
use Rattle.std.specs.BTreeSet.{insert_key}
use Rattle.std.proofs.lemmas.Bool.Decides.{nat_tests}
use Rattle.cov_model.specs.declared.report.FunctionReport.{FunctionReport}
use Rattle.cov_model.specs.declared.report.Range.{Range}
use Rattle.cov_model.specs.declared.snapshot.Entry.{Entry}
use Rattle.cov_model.specs.declared.snapshot.Snapshot.{Snapshot}
use Rattle.cov_model.specs.declared.sums.Key.{Key}
use Rattle.cov_text.specs.Listing.{inserted, same_text, first_of}
use Rattle.cov_model.specs.Nesting.{range_fault, or_else, AreNested, AreReportsNested}
use Rattle.cov_model.specs.Sums.{reports, root, total, is_of, key_of, keys, keys_in_order, file_order, urls_in_order}
use Rattle.cov_model.specs.declared.report.ListForm.{ListForm}
use Rattle.cov_model.specs.File.{report_in, entry_in, scripts_in}
use Rattle.cov_normal.proofs.Forms.{it_is_well_nested}
use Rattle.cov_book.specs.Counts.{reports_in}
use Rattle.cov_book.specs.Stands.{AreUpright}

-- ---- the root of a well nested report is upright

or-first : {A : Type 0} (a b : Option A) → or_else a b ≡ None → a ≡ None
or-first None b e = refl
or-first (Some x) b e = absurd cc

cond-none : {A : Type 0} (b : Bool) (x : A) (o : Option A) → cond b (Some x) o ≡ None → b ≡ false
cond-none true x o e = absurd cc
cond-none false x o e = refl

abbrev IsUpright : Key → Type 0
IsUpright key = key.start ≤ key.end

not-past : (m n : ℕ) → nat_lt n m ≡ false → m ≤ n
not-past m n e = grind (arith, nat_tests)

abbrev IfUpright : Option Key → Type 0
IfUpright None = Unit {0}
IfUpright (Some key) = IsUpright key

key-upright : (url : List ℕ) (f : FunctionReport) → range_fault f.ranges ≡ None → IfUpright (key_of url f)
unfolding range_fault
key-upright url f e = by f.ranges e
  where
    by : (rs : List Range) → range_fault rs ≡ None → IfUpright (option_map (λ root. record { url = url; start = root.start; end = root.end; name = f.name }) (first_of rs))
    by [] e = tt
    by (root ∷ rest) e = not-past root.start root.end (cond-none (nat_lt root.end root.start) _ _ (or-first _ _ e))

-- ---- what holds of each, along the lists

pub All-push : {A : Type 0} (P : A → Type 0) (xs : List A) (x : A) → AllByRecursion P xs → P x → AllByRecursion P (xs ++ x ∷ [])
All-push P [] x h p = (p, tt)
All-push P (y ∷ ys) x h p = (h.0, All-push P ys x h.1 p)

pub All-at : {A B : Type 0} (P : B → Type 0) (f : A → B) (xs : List A) (i : ℕ) (x : A) → AllByRecursion P (map f xs) → i < length xs → x ≡ get_or xs i x → P (f x)
All-at P f [] i x h l e = absurd (omega arith)
All-at P f (y ∷ ys) zero x h l e = subst (λ z. P (f z)) (sym e) h.0
All-at P f (y ∷ ys) (suc i) x h l e = All-at P f ys i x h.1 (omega arith) e

All-append : {A : Type 0} (P : A → Type 0) (xs ys : List A) → AllByRecursion P xs → AllByRecursion P ys → AllByRecursion P (xs ++ ys)
All-append P [] ys h k = k
All-append P (x ∷ xs) ys h k = (h.0, All-append P xs ys h.1 k)

All-flat_map : {A B : Type 0} (P : A → Type 0) (Q : B → Type 0) (g : A → List B) → ((x : A) → P x → AllByRecursion Q (g x)) → (xs : List A) → AllByRecursion P xs → AllByRecursion Q (flat_map g xs)
All-flat_map P Q g each [] h = tt
All-flat_map P Q g each (x ∷ xs) h = All-append Q (g x) (flat_map g xs) (each x h.0) (All-flat_map P Q g each xs h.1)

All-map : {A B : Type 0} (P : A → Type 0) (Q : B → Type 0) (g : A → B) → ((x : A) → P x → Q (g x)) → (xs : List A) → AllByRecursion P xs → AllByRecursion Q (map g xs)
All-map P Q g each [] h = tt
All-map P Q g each (x ∷ xs) h = (each x h.0, All-map P Q g each xs h.1)

All-filter : {A : Type 0} (P : A → Type 0) (p : A → Bool) (xs : List A) → AllByRecursion P xs → AllByRecursion P (filter p xs)
All-filter P p [] h = tt
All-filter P p (x ∷ xs) h =
    elim (p x) as (λ b. AllByRecursion P (cond b (x ∷ filter p xs) (filter p xs))) [
      | true ↦ (h.0, All-filter P p xs h.1)
      | false ↦ All-filter P p xs h.1
    ]

All-keys : (url : List ℕ) (fs : List FunctionReport) → AreReportsNested fs → AllByRecursion IsUpright (filter_map (key_of url) fs)
All-keys url [] h = tt
All-keys url (f ∷ fs) h = by (key_of url f) (key-upright url f h.0) (All-keys url fs h.1)
  where
    by : (o : Option Key) → IfUpright o → AllByRecursion IsUpright (filter_map (key_of url) fs) → AllByRecursion IsUpright (cons_option o (filter_map (key_of url) fs))
    by None k rest = rest
    by (Some key) k rest = (k, rest)

All-insert_key : {A : Type 0} (P : A → Type 0) (cmp : A → A → Ordering) (xs : List A) (x : A) → AllByRecursion P xs → P x → AllByRecursion P (insert_key cmp xs x)
All-insert_key P cmp [] x h p = (p, tt)
All-insert_key P cmp (y ∷ ys) x h p =
    elim (cmp x y) as (λ o. AllByRecursion P (match_ordering o (x ∷ y ∷ ys) (y ∷ ys) (y ∷ insert_key cmp ys x))) [
      | Less ↦ (p, h)
      | Equal ↦ h
      | Greater ↦ (h.0, All-insert_key P cmp ys x h.1 p)
    ]

All-inserted : {A : Type 0} (P : A → Type 0) (cmp : A → A → Ordering) (known xs : List A) → AllByRecursion P known → AllByRecursion P xs → AllByRecursion P (inserted cmp known xs)
All-inserted P cmp known [] h k = h
All-inserted P cmp known (x ∷ xs) h k = All-inserted P cmp (insert_key cmp known x) xs (All-insert_key P cmp known x h k.0) k.1

pub keys-upright : (held : List Snapshot) → AllByRecursion AreNested held → AreUpright (keys_in_order held)
keys-upright held h =
    All-inserted IsUpright file_order [] (keys held) tt
    (All-flat_map AreNested IsUpright (λ (snapshot : Snapshot). flat_map (λ (entry : Entry). filter_map (key_of entry.url) entry.functions) snapshot)
    (λ snapshot nested. All-flat_map (λ (entry : Entry). AreReportsNested entry.functions) IsUpright (λ (entry : Entry). filter_map (key_of entry.url) entry.functions)
    (λ entry k. All-keys entry.url entry.functions k) snapshot nested) held h)

pub reports_in-nested : (snapshot : Snapshot) (key : Key) → AreNested snapshot → AreReportsNested (reports_in key snapshot)
reports_in-nested snapshot key h =
    All-flat_map (λ (entry : Entry). AreReportsNested entry.functions) (λ (f : FunctionReport). range_fault f.ranges ≡ None) (λ (entry : Entry). filter (is_of key entry.url) entry.functions)
    (λ entry k. All-filter (λ (f : FunctionReport). range_fault f.ranges ≡ None) (is_of key entry.url) entry.functions k) snapshot h

pub reports-nested : (held : List Snapshot) (key : Key) → AllByRecursion AreNested held → AreReportsNested (reports held key)
unfolding reports
reports-nested held key h =
    All-flat_map AreNested (λ (f : FunctionReport). range_fault f.ranges ≡ None) (reports_in key) (λ snapshot nested. reports_in-nested snapshot key nested) held h

all-any : {A : Type 0} (P : A → Type 0) → ((x : A) → P x) → (xs : List A) → AllByRecursion P xs
all-any P h [] = tt
all-any P h (x ∷ xs) = (h x, all-any P h xs)

-- The merged scripts nest.
pub scripts-nested : (form : ListForm) (held : List Snapshot) → AllByRecursion AreNested held → AreNested (scripts_in form held)
unfolding scripts_in
scripts-nested form held h =
    All-map (λ (url : List ℕ). Unit {0}) (λ (entry : Entry). AreReportsNested entry.functions) (entry_in form held)
    (λ url u. All-map IsUpright (λ (f : FunctionReport). range_fault f.ranges ≡ None) (report_in form held)
    (λ key up. it_is_well_nested form key.start key.end (root held key) (total held key) up)
    (filter (λ key. same_text key.url url) (keys_in_order held)) (All-filter IsUpright (λ key. same_text key.url url) (keys_in_order held) (keys-upright held h)))
    (urls_in_order held) (all-any (λ (url : List ℕ). Unit {0}) (λ url. tt) (urls_in_order held))
