-- A list of snapshots has a key exactly where the key has a report.
use Rattle.std.proofs.Common.{◌≡◌, ℕ, ◌+◌, ◌<◌, Bool, true, false, List, [], ◌∷◌, ◌++◌, refl, sym, ap, ◌∙◌, arith}
use Rattle.std.specs.Prelude.{Option, None, Some, option_map, unwrap_or, cond, nat_lt, ◌||◌, filter, filter_map, flat_map, sum_by}
use Rattle.std.specs.List.{list_any, cons_option}
use Rattle.std.proofs.lemmas.Bool.{lt-ltb}
use Rattle.std.proofs.lemmas.List.Folds.{list_any-append}
use Rattle.std.proofs.lemmas.List.Sums.{sum_by-cons}
use Rattle.cov_model.specs.declared.report.FunctionReport.{FunctionReport}
use Rattle.cov_model.specs.declared.snapshot.Entry.{Entry}
use Rattle.cov_model.specs.declared.snapshot.Snapshot.{Snapshot}
use Rattle.cov_model.specs.declared.sums.Key.{Key}
use Rattle.cov_model.specs.Sums.{keys, keys_in_order, file_order, key_of, same_key, is_of, reports}
use Rattle.cov_book.proofs.Ordered.{file_exact, any-in_order}

abbrev pub is_cons : {A : Type 0} → List A → Bool
is_cons [] = false
is_cons (x ∷ xs) = true

has-step : (key : Key) (o : Option Key) (f : FunctionReport) (rest : List FunctionReport) (others : List Key)
    → list_any (same_key key) others ≡ is_cons rest
    → list_any (same_key key) (cons_option o others) ≡ is_cons (cond (unwrap_or (option_map (same_key key) o) false) (f ∷ rest) rest)
has-step key None f rest others h = h
has-step key (Some k) f rest others h =
    elim (same_key key k) as (λ b. (b || list_any (same_key key) others) ≡ is_cons (cond b (f ∷ rest) rest)) [
      | true ↦ refl
      | false ↦ h
    ]

has-filter : (key : Key) (url : List ℕ) (fs : List FunctionReport) → list_any (same_key key) (filter_map (key_of url) fs) ≡ is_cons (filter (is_of key url) fs)
has-filter key url [] = refl
has-filter key url (f ∷ fs) = has-step key (key_of url f) f (filter (is_of key url) fs) (filter_map (key_of url) fs) (has-filter key url fs)

cons-append : {A : Type 0} (xs ys : List A) → is_cons (xs ++ ys) ≡ (is_cons xs || is_cons ys)
cons-append [] ys = refl
cons-append (x ∷ xs) ys = refl

has-flat : {A B C : Type 0} (q : B → Bool) (g : A → List B) (h : A → List C) → ((x : A) → list_any q (g x) ≡ is_cons (h x))
    → (xs : List A) → list_any q (flat_map g xs) ≡ is_cons (flat_map h xs)
has-flat q g h each [] = refl
has-flat q g h each (x ∷ xs) =
    list_any-append q (g x) (flat_map g xs)
    ∙ ap (λ b. b || list_any q (flat_map g xs)) (each x)
    ∙ ap (λ b. is_cons (h x) || b) (has-flat q g h each xs)
    ∙ sym (cons-append (h x) (flat_map h xs))

pub has-is : (held : List Snapshot) (key : Key) → list_any (same_key key) (keys held) ≡ is_cons (reports held key)
unfolding reports
has-is held key =
    has-flat (same_key key) (λ (snapshot : Snapshot). flat_map (λ (entry : Entry). filter_map (key_of entry.url) entry.functions) snapshot)
    (λ (snapshot : Snapshot). flat_map (λ (entry : Entry). filter (is_of key entry.url) entry.functions) snapshot)
    (λ snapshot. has-flat (same_key key) (λ (entry : Entry). filter_map (key_of entry.url) entry.functions) (λ (entry : Entry). filter (is_of key entry.url) entry.functions) (λ entry. has-filter key entry.url entry.functions) snapshot)
    held

none-there : {A : Type 0} (xs : List A) → is_cons xs ≡ false → xs ≡ []
none-there [] e = refl
none-there (x ∷ xs) e = absurd cc

pub has-in_order : (held : List Snapshot) (key : Key) → list_any (same_key key) (keys_in_order held) ≡ is_cons (reports held key)
has-in_order held key = any-in_order file_order file_exact (same_key key) (keys held) ∙ has-is held key

pub absent : (held : List Snapshot) (key : Key) → list_any (same_key key) (keys_in_order held) ≡ false → reports held key ≡ []
absent held key e = none-there (reports held key) (sym (has-in_order held key) ∙ e)

-- ---- by counting

pub cons-count : {A : Type 0} (xs : List A) → is_cons xs ≡ nat_lt 0 (sum_by (λ (x : A). 1) xs)
cons-count [] = refl
cons-count {A = A} (x ∷ xs) =
    let more : 0 < sum_by (λ (y : A). 1) (x ∷ xs) = omega (arith, sum_by-cons (λ (y : A). 1) x xs) in
    sym (lt-ltb 0 (sum_by (λ (y : A). 1) (x ∷ xs)) more)

any-step : (b rest : Bool) (n : ℕ) → rest ≡ nat_lt 0 n → (b || rest) ≡ nat_lt 0 (cond b 1 0 + n)
any-step true rest n e = let more : 0 < 1 + n = omega arith in sym (lt-ltb 0 (1 + n) more)
any-step false rest n e = let same : n ≡ 0 + n = omega arith in e ∙ ap (nat_lt 0) same

pub any-count : {A : Type 0} (p : A → Bool) (xs : List A) → list_any p xs ≡ nat_lt 0 (sum_by (λ (x : A). cond (p x) 1 0) xs)
any-count p [] = refl
any-count {A = A} p (x ∷ xs) =
    any-step (p x) (list_any p xs) (sum_by (λ (y : A). cond (p y) 1 0) xs) (any-count p xs) ∙ ap (nat_lt 0) (sym (sum_by-cons (λ (y : A). cond (p y) 1 0) x xs))
