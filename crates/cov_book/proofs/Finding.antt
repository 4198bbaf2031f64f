-- Finding the first sum past the limit.
use Rattle.std.proofs.Common.{◌≡◌, ℕ, suc, ◌+◌, ◌-◌, ◌<◌, Bool, true, false, List, [], ◌∷◌, ◌++◌, map, refl, sym, ap, ◌∙◌, arith}
use Rattle.std.specs.Prelude.{Option, None, Some, option_map, min, nat_le, nat_lt, cond, find, filter, flat_map, sum_by, ◌&&◌, ◌^◌}
use Rattle.std.specs.List.{list_all}
use Rattle.std.specs.Option.{option_or}
use Rattle.std.proofs.lemmas.List.Folds.{find-append}
use Rattle.std.proofs.lemmas.List.{append-nil}
use Rattle.std.proofs.lemmas.Bool.Decides.{nat_tests}
use Rattle.std.proofs.lemmas.List.Sums.{sum_by-append, sum_by-cons}
use Rattle.cov_model.specs.declared.report.FunctionReport.{FunctionReport}
use Rattle.cov_model.specs.declared.snapshot.Entry.{Entry}
use Rattle.cov_model.specs.declared.snapshot.Snapshot.{Snapshot}
use Rattle.cov_model.specs.declared.sums.Key.{Key}
use Rattle.cov_model.specs.declared.sums.At.{At}
use Rattle.cov_model.specs.declared.sums.At.TheVariants.{Root, Offset}
use Rattle.cov_model.specs.declared.sums.SumFault.{SumFault}
use Rattle.cov_text.specs.Listing.{counted, offsets}
use Rattle.cov_model.specs.Nesting.{or_else}
use Rattle.cov_text.specs.Listing.{limit}
use Rattle.cov_model.specs.Sums.{fits, sum_at, sum_fault, passes_limit, points, keys_in_order, is_of, reports, root, total}
use Rattle.cov_model.proofs.Grows.{fits-each, sum_at-append}
use Rattle.cov_book.specs.Counts.{capped, weight, reports_in, passes, first_point, fault_with}

pub offsets-more : (o end : ℕ) → o < end → offsets o end ≡ o ∷ offsets (o + 1) end
offsets-more o end l =
    let n : end - o ≡ suc (end - (o + 1)) = omega arith in
    let next : suc o ≡ o + 1 = omega arith in
    ap (counted o) n ∙ ap (λ k. o ∷ counted k (end - (o + 1))) next

-- a point that fails a test is passed over
pub find-more : (p : At → Bool) (o end : ℕ) → o < end → false ≡ p (Offset o) → find p (map Offset (offsets o end)) ≡ find p (map Offset (offsets (o + 1) end))
find-more p o end l under =
    ap (λ os. find p (map Offset os)) (offsets-more o end l) ∙ ap (λ b. cond b (Some (Offset o)) (find p (map Offset (offsets (o + 1) end)))) (sym under)

-- the first sum past the limit among these keys
abbrev pub first_sum : List Snapshot → Snapshot → List Key → Option SumFault
first_sum held snapshot [] = None
first_sum held snapshot (key ∷ rest) = or_else (option_map (fault_with held snapshot key) (first_point held snapshot key (points key))) (first_sum held snapshot rest)

-- ---- the sums as the definitions have them

pub sum-flat : {A B : Type 0} (f : B → ℕ) (g : A → List B) (xs : List A) → sum_by f (flat_map g xs) ≡ sum_by (λ x. sum_by f (g x)) xs
sum-flat f g [] = refl
sum-flat f g (x ∷ xs) =
    sum_by-append f (g x) (flat_map g xs) ∙ ap (λ n. sum_by f (g x) + n) (sum-flat f g xs) ∙ sym (sum_by-cons (λ y. sum_by f (g y)) x xs)

pub sum-each : {A : Type 0} (f g : A → ℕ) → ((x : A) → f x ≡ g x) → (xs : List A) → sum_by f xs ≡ sum_by g xs
sum-each f g h [] = refl
sum-each f g h (x ∷ xs) = sum_by-cons f x xs ∙ ap (λ n. n + sum_by f xs) (h x) ∙ ap (λ n. g x + n) (sum-each f g h xs) ∙ sym (sum_by-cons g x xs)

sum-cond : (b : Bool) (w : FunctionReport → ℕ) (f : FunctionReport) (fs : List FunctionReport) → sum_by w (cond b (f ∷ fs) fs) ≡ cond b (w f) 0 + sum_by w fs
sum-cond true w f fs = sum_by-cons w f fs
sum-cond false w f fs = omega arith

pub one-script : (w : FunctionReport → ℕ) (p : FunctionReport → Bool) (fs : List FunctionReport) → sum_by w (filter p fs) ≡ sum_by (λ f. cond (p f) (w f) 0) fs
one-script w p [] = refl
one-script w p (f ∷ fs) =
    sum-cond (p f) w f (filter p fs) ∙ ap (λ n. cond (p f) (w f) 0 + n) (one-script w p fs) ∙ sym (sum_by-cons (λ g. cond (p g) (w g) 0) f fs)

-- the sum over all reports of all scripts
abbrev pub weigh : (List ℕ → FunctionReport → ℕ) → List Snapshot → ℕ
weigh w held = sum_by (λ (snapshot : Snapshot). sum_by (λ (entry : Entry). sum_by (w entry.url) entry.functions) snapshot) held

-- the sum over the reports of a key
pub weigh-reports : (w : FunctionReport → ℕ) (key : Key) (held : List Snapshot) → sum_by w (reports held key) ≡ weigh (λ url f. cond (is_of key url f) (w f) 0) held
unfolding reports
weigh-reports w key held =
    sum-flat w (λ (snapshot : Snapshot). flat_map (λ (entry : Entry). filter (is_of key entry.url) entry.functions) snapshot) held
    ∙ sum-each _ (λ (snapshot : Snapshot). sum_by (λ (entry : Entry). sum_by (λ f. cond (is_of key entry.url f) (w f) 0) entry.functions) snapshot)
    (λ snapshot. sum-flat w (λ (entry : Entry). filter (is_of key entry.url) entry.functions) snapshot
    ∙ sum-each _ (λ (entry : Entry). sum_by (λ f. cond (is_of key entry.url f) (w f) 0) entry.functions) (λ entry. one-script w (is_of key entry.url) entry.functions) snapshot)
    held

pub sum-is : (held : List Snapshot) (key : Key) (at : At) → sum_at held key at ≡ sum_by (weight at) (reports held key)
unfolding root total
sum-is held key Root = refl
sum-is held key (Offset o) = refl

pub new-is : (snapshot : Snapshot) (key : Key) → reports (snapshot ∷ []) key ≡ reports_in key snapshot
unfolding reports
new-is snapshot key = append-nil (reports_in key snapshot)

-- the sum at a point, with what is added
pub both-is : (held : List Snapshot) (snapshot : Snapshot) (key : Key) (at : At) → sum_at (held ++ snapshot ∷ []) key at ≡ sum_by (weight at) (reports held key) + sum_by (weight at) (reports_in key snapshot)
both-is held snapshot key at =
    sum_at-append held (snapshot ∷ []) key at ∙ ap (λ n. n + sum_at (snapshot ∷ []) key at) (sum-is held key at)
    ∙ ap (λ n. sum_by (weight at) (reports held key) + n) (sum-is (snapshot ∷ []) key at ∙ ap (sum_by (weight at)) (new-is snapshot key))

-- ---- the first sum past the limit

told : List Snapshot → Snapshot → Key × At → SumFault
told held snapshot at =
    record { key = at.0; at = at.1; held = sum_at held at.0 at.1; added = min (sum_at (snapshot ∷ []) at.0 at.1) (2 ^ 128 - 1) }

find-each : {A : Type 0} (p q : A → Bool) → ((x : A) → p x ≡ q x) → (xs : List A) → find p xs ≡ find q xs
find-each p q h [] = refl
find-each p q h (x ∷ xs) = ap (λ b. cond b (Some x) (find p xs)) (h x) ∙ ap (cond (q x) (Some x)) (find-each p q h xs)

cond-some : {A B : Type 0} (f : A → B) (b : Bool) (x : A) (o : Option A) → cond b (Some (f x)) (option_map f o) ≡ option_map f (cond b (Some x) o)
cond-some f true x o = refl
cond-some f false x o = refl

find-map : {A B : Type 0} (p : B → Bool) (f : A → B) (xs : List A) → find p (map f xs) ≡ option_map f (find (λ x. p (f x)) xs)
find-map p f [] = refl
find-map p f (x ∷ xs) = ap (cond (p (f x)) (Some (f x))) (find-map p f xs) ∙ cond-some f (p (f x)) x (find (λ y. p (f y)) xs)

both-true : (a b : Bool) → (a && b) ≡ true → (a ≡ true) × (b ≡ true)
both-true true b e = (refl, e)
both-true false b e = absurd cc

found-same : {A B : Type 0} (f g : A → B) (b : Bool) (x : A) (o : Option A) → f x ≡ g x → option_map f o ≡ option_map g o → option_map f (cond b (Some x) o) ≡ option_map g (cond b (Some x) o)
found-same f g true x o e h = ap Some e
found-same f g false x o e h = h

find-same : {A B : Type 0} (p q : A → Bool) (f g : A → B) → ((x : A) → q x ≡ true → f x ≡ g x) → (xs : List A) → list_all q xs ≡ true → option_map f (find p xs) ≡ option_map g (find p xs)
find-same p q f g h [] e = refl
find-same p q f g h (x ∷ xs) e =
    let r = both-true (q x) (list_all q xs) e in
    found-same f g (p x) x (find p xs) (h x r.0) (find-same p q f g h xs r.1)

map-map : {A B C : Type 0} (f : B → C) (g : A → B) (o : Option A) → option_map f (option_map g o) ≡ option_map (λ x. f (g x)) o
map-map f g None = refl
map-map f g (Some x) = refl

map-or : {A B : Type 0} (f : A → B) (o q : Option A) → option_map f (option_or o q) ≡ or_else (option_map f o) (option_map f q)
map-or f None q = refl
map-or f (Some x) q = refl

within-min : (n m : ℕ) → nat_le n m ≡ true → min n m ≡ n
within-min n m e = grind (arith, nat_tests)

told-same : (held : List Snapshot) (snapshot : Snapshot) (key : Key) (at : At) → nat_le (sum_at held key at) limit ≡ true → told held snapshot (key, at) ≡ fault_with held snapshot key at
unfolding told
told-same held snapshot key at e =
    let before : sum_at held key at ≡ min (sum_by (weight at) (reports held key)) limit = sym (within-min (sum_at held key at) limit e) ∙ ap (λ n. min n limit) (sum-is held key at) in
    let more : min (sum_at (snapshot ∷ []) key at) (2 ^ 128 - 1) ≡ capped (sum_by (weight at) (reports_in key snapshot)) =
    ap capped (sum-is (snapshot ∷ []) key at ∙ ap (sum_by (weight at)) (new-is snapshot key)) in
    (λ i. record { key = key; at = at; held = before i; added = more i })

one-key : (held : List Snapshot) (snapshot : Snapshot) (key : Key) → fits held ≡ true
    → option_map (told held snapshot) (find (passes_limit (held ++ snapshot ∷ [])) (map (λ point. (key, point)) (points key)))
    ≡ option_map (fault_with held snapshot key) (first_point held snapshot key (points key))
one-key held snapshot key fit =
    let both = held ++ snapshot ∷ [] in
    ap (option_map (told held snapshot)) (find-map (passes_limit both) (λ point. (key, point)) (points key))
    ∙ map-map (told held snapshot) (λ point. (key, point)) (find (λ at. passes_limit both (key, at)) (points key))
    ∙ find-same (λ at. passes_limit both (key, at)) (λ at. nat_le (sum_at held key at) limit) (λ at. told held snapshot (key, at)) (fault_with held snapshot key)
    (λ at e. told-same held snapshot key at e) (points key) (fits-each held fit key)
    ∙ ap (option_map (fault_with held snapshot key))
    (find-each (λ at. passes_limit both (key, at)) (passes (reports held key) (reports_in key snapshot)) (λ at. ap (nat_lt limit) (both-is held snapshot key at)) (points key))

all-keys : (held : List Snapshot) (snapshot : Snapshot) → fits held ≡ true → (ks : List Key)
    → option_map (told held snapshot) (find (passes_limit (held ++ snapshot ∷ [])) (flat_map (λ key. map (λ point. (key, point)) (points key)) ks)) ≡ first_sum held snapshot ks
all-keys held snapshot fit [] = refl
all-keys held snapshot fit (k ∷ ks) =
    let both = held ++ snapshot ∷ [] in
    let rest = flat_map (λ key. map (λ point. (key, point)) (points key)) ks in
    let here = map (λ point. (k, point)) (points k) in
    ap (option_map (told held snapshot)) (find-append (passes_limit both) here rest)
    ∙ map-or (told held snapshot) (find (passes_limit both) here) (find (passes_limit both) rest)
    ∙ ap (λ o. or_else o (option_map (told held snapshot) (find (passes_limit both) rest))) (one-key held snapshot k fit)
    ∙ ap (or_else (option_map (fault_with held snapshot k) (first_point held snapshot k (points k)))) (all-keys held snapshot fit ks)

pub fault-is : (held : List Snapshot) (snapshot : Snapshot) → fits held ≡ true → sum_fault held snapshot ≡ first_sum held snapshot (keys_in_order (held ++ snapshot ∷ []))
unfolding sum_fault told
fault-is held snapshot fit = all-keys held snapshot fit (keys_in_order (held ++ snapshot ∷ []))
