-- Sums only grow: where more is held, what passed the limit passes it still.
use Rattle.std.proofs.Common.{◌≡◌, ℕ, ◌+◌, ◌≤◌, Bool, true, false, List, [], ◌∷◌, ◌++◌, map, refl, sym, ap, ◌∙◌, arith}
use Rattle.std.specs.Prelude.{Option, None, Some, option_map, unwrap_or, cond, nat_le, ◌&&◌, ◌||◌, ◌==◌, filter, filter_map, flat_map, sum_by}
use Rattle.std.specs.List.{list_all, list_any, cons_option}
use Rattle.std.specs.declared.cmp.Ordering.{Ordering}
use Rattle.std.specs.declared.cmp.Ordering.TheVariants.{Less, Equal, Greater}
use Rattle.std.specs.Ordering.{nat_cmp, ordering_then, match_ordering, is_eq}
use Rattle.std.specs.BTreeSet.{insert_key}
use Rattle.std.proofs.lemmas.Bool.Decides.{nat_tests, Decides-eqb}
use Rattle.std.proofs.lemmas.Grind.{flat_map-append}
use Rattle.std.proofs.lemmas.List.Folds.{list_all-append, list_all-map, list_any-append}
use Rattle.std.proofs.lemmas.List.Sums.{sum_by-append}
use Rattle.std.proofs.lemmas.Map.Text.{is_eq-slice_cmp}
use Rattle.std.proofs.lemmas.Slice.Eq.{bytes_eq-Decides}
use Rattle.std.proofs.lemmas.Bool.{and_parts, or_parts}
use Rattle.std.proofs.Math.Bool.{and-true}
use Rattle.cov_model.specs.declared.report.FunctionReport.{FunctionReport}
use Rattle.cov_model.specs.declared.snapshot.Entry.{Entry}
use Rattle.cov_model.specs.declared.snapshot.Snapshot.{Snapshot}
use Rattle.cov_model.specs.declared.sums.Key.{Key}
use Rattle.cov_model.specs.declared.sums.At.{At}
use Rattle.cov_model.specs.declared.sums.At.TheVariants.{Root, Offset}
use Rattle.cov_text.specs.Listing.{text_cmp, same_text, inserted}
use Rattle.cov_text.proofs.Bools.{all-more, swap-and}
use Rattle.cov_model.specs.Nesting.{inner_count}
use Rattle.cov_text.specs.Listing.{limit}
use Rattle.cov_model.specs.Sums.{fits, sum_at, points, keys, keys_in_order, file_order, key_of, same_key, is_of, reports, root, total, root_count}
use Rattle.cov_model.specs.Laws.{StaysPast}

-- ---- tests over lists

all-flat_map : {A B : Type 0} (q : B → Bool) (g : A → List B) (xs : List A) → list_all q (flat_map g xs) ≡ list_all (λ x. list_all q (g x)) xs
all-flat_map q g [] = refl
all-flat_map q g (x ∷ xs) = list_all-append q (g x) (flat_map g xs) ∙ ap (λ b. list_all q (g x) && b) (all-flat_map q g xs)

any-flat_map : {A B : Type 0} (q : B → Bool) (g : A → List B) (xs : List A) → list_any q (flat_map g xs) ≡ list_any (λ x. list_any q (g x)) xs
any-flat_map q g [] = refl
any-flat_map q g (x ∷ xs) = list_any-append q (g x) (flat_map g xs) ∙ ap (λ b. list_any q (g x) || b) (any-flat_map q g xs)

-- ---- a set in order has the same elements

then-equal : (o p : Ordering) → ordering_then o p ≡ Equal → (o ≡ Equal) × (p ≡ Equal)
then-equal Less p e = absurd cc
then-equal Equal p e = (refl, e)
then-equal Greater p e = absurd cc

text-equal : (a b : List ℕ) → text_cmp a b ≡ Equal → a ≡ b
text-equal a b e = (bytes_eq-Decides a b).0 (sym (is_eq-slice_cmp a b) ∙ ap is_eq e)

nat-equal : (a b : ℕ) → nat_cmp a b ≡ Equal → a ≡ b
nat-equal a b e = grind (arith, nat_tests)

order-equal : (a b : Key) → file_order a b ≡ Equal → a ≡ b
order-equal a b e =
    let p = then-equal _ _ e in
    let q = then-equal _ _ p.1 in
    let r = then-equal _ _ q.1 in
    let url = text-equal a.url b.url p.0 in
    let start = nat-equal a.start b.start q.0 in
    let end = sym (nat-equal b.end a.end r.0) in
    let name = text-equal a.name b.name r.1 in
    (λ i. record { url = url i; start = start i; end = end i; name = name i })

again-and : (a b : Bool) → (a && b) ≡ (a && (a && b))
again-and true b = refl
again-and false b = refl

insert-step : (p : Key → Bool) (x k : Key) (xs : List Key) (o : Ordering) → file_order k x ≡ o
    → list_all p (insert_key file_order xs k) ≡ (p k && list_all p xs)
    → list_all p (match_ordering o (k ∷ x ∷ xs) (x ∷ xs) (x ∷ insert_key file_order xs k)) ≡ (p k && (p x && list_all p xs))
insert-step p x k xs Less e rest = refl
insert-step p x k xs Equal e rest = again-and (p x) (list_all p xs) ∙ ap (λ y. p y && (p x && list_all p xs)) (sym (order-equal k x e))
insert-step p x k xs Greater e rest = ap (λ b. p x && b) rest ∙ swap-and (p x) (p k) (list_all p xs)

all-insert : (p : Key → Bool) (ks : List Key) (k : Key) → list_all p (insert_key file_order ks k) ≡ (p k && list_all p ks)
all-insert p [] k = refl
all-insert p (x ∷ xs) k = insert-step p x k xs (file_order k x) refl (all-insert p xs k)

all-inserted : (p : Key → Bool) (ks xs : List Key) → list_all p (inserted file_order ks xs) ≡ (list_all p xs && list_all p ks)
all-inserted p ks [] = refl
all-inserted p ks (x ∷ xs) =
    all-inserted p (insert_key file_order ks x) xs
    ∙ ap (λ b. list_all p xs && b) (all-insert p ks x)
    ∙ swap-and (list_all p xs) (p x) (list_all p ks)
    ∙ assoc-and (p x) (list_all p xs) (list_all p ks)
  where
    assoc-and : (a b c : Bool) → (a && (b && c)) ≡ ((a && b) && c)
    assoc-and true b c = refl
    assoc-and false b c = refl

-- ---- what fits, fits at each key

abbrev pub is_within_limit : List Snapshot → Key → Bool
is_within_limit held key = list_all (λ at. nat_le (sum_at held key at) limit) (points key)

at-points : Key → List (Key × At)
at-points key = map (λ point. (key, point)) (points key)

stays-within : List Snapshot → Key × At → Bool
stays-within held at = nat_le (sum_at held at.0 at.1) limit

points-within : (held : List Snapshot) (ks : List Key) → list_all (λ key. list_all (stays-within held) (at-points key)) ks ≡ list_all (is_within_limit held) ks
unfolding at-points stays-within
points-within held [] = refl
points-within held (k ∷ ks) =
    ap (λ b. b && list_all (λ key. list_all (stays-within held) (at-points key)) ks) (list_all-map (stays-within held) (λ point. (k, point)) (points k))
    ∙ ap (λ b. is_within_limit held k && b) (points-within held ks)

fits-keys : (held : List Snapshot) → fits held ≡ list_all (is_within_limit held) (keys held)
unfolding fits stays-within at-points
fits-keys held =
    all-flat_map (stays-within held) at-points (keys_in_order held)
    ∙ points-within held (keys_in_order held)
    ∙ all-inserted (is_within_limit held) [] (keys held)
    ∙ and-true (list_all (is_within_limit held) (keys held))

-- a key that has no report has no sum
none-step : (key : Key) (o : Option Key) (f : FunctionReport) (rest : List FunctionReport) (others : List Key)
    → list_any (same_key key) (cons_option o others) ≡ false
    → (list_any (same_key key) others ≡ false → rest ≡ [])
    → cond (unwrap_or (option_map (same_key key) o) false) (f ∷ rest) rest ≡ []
none-step key None f rest others e h = h e
none-step key (Some k) f rest others e h =
    let p = or_parts (same_key key k) (list_any (same_key key) others) e in
    ap (λ b. cond b (f ∷ rest) rest) p.0 ∙ h p.1

none-filter : (key : Key) (url : List ℕ) (fs : List FunctionReport) → list_any (same_key key) (filter_map (key_of url) fs) ≡ false → filter (is_of key url) fs ≡ []
none-filter key url [] e = refl
none-filter key url (f ∷ fs) e = none-step key (key_of url f) f (filter (is_of key url) fs) (filter_map (key_of url) fs) e (none-filter key url fs)

none-flat : {A B C : Type 0} (q : B → Bool) (g : A → List B) (h : A → List C) → ((x : A) → list_any q (g x) ≡ false → h x ≡ [])
    → (xs : List A) → list_any q (flat_map g xs) ≡ false → flat_map h xs ≡ []
none-flat q g h each [] e = refl
none-flat q g h each (x ∷ xs) e =
    let p = or_parts (list_any q (g x)) (list_any q (flat_map g xs)) (sym (list_any-append q (g x) (flat_map g xs)) ∙ e) in
    ap (λ ys. ys ++ flat_map h xs) (each x p.0) ∙ none-flat q g h each xs p.1

no-reports : (held : List Snapshot) (key : Key) → list_any (same_key key) (keys held) ≡ false → reports held key ≡ []
unfolding reports
no-reports held key e =
    none-flat (same_key key) (λ (snapshot : Snapshot). flat_map (λ (entry : Entry). filter_map (key_of entry.url) entry.functions) snapshot)
    (λ (snapshot : Snapshot). flat_map (λ (entry : Entry). filter (is_of key entry.url) entry.functions) snapshot)
    (λ snapshot none. none-flat (same_key key) (λ (entry : Entry). filter_map (key_of entry.url) entry.functions) (λ (entry : Entry). filter (is_of key entry.url) entry.functions) (λ entry n. none-filter key entry.url entry.functions n) snapshot none)
    held e

no-sum : (held : List Snapshot) (key : Key) → reports held key ≡ [] → (at : At) → sum_at held key at ≡ 0
unfolding root total
no-sum held key none Root = ap (sum_by root_count) none
no-sum held key none (Offset o) = ap (sum_by (λ f. inner_count f.ranges o)) none

all-true : {A : Type 0} (p : A → Bool) → ((x : A) → p x ≡ true) → (xs : List A) → list_all p xs ≡ true
all-true p h [] = refl
all-true p h (x ∷ xs) = ap (λ b. b && list_all p xs) (h x) ∙ all-true p h xs

same-is : (a b : Key) → same_key a b ≡ true → a ≡ b
same-is a b e =
    let p = and_parts (same_text a.url b.url) (a.start == b.start && (a.end == b.end && same_text a.name b.name)) e in
    let q = and_parts (a.start == b.start) (a.end == b.end && same_text a.name b.name) p.1 in
    let r = and_parts (a.end == b.end) (same_text a.name b.name) q.1 in
    let url = (bytes_eq-Decides a.url b.url).0 p.0 in
    let start : a.start ≡ b.start = (Decides-eqb a.start b.start).0 q.0 in
    let end : a.end ≡ b.end = (Decides-eqb a.end b.end).0 r.0 in
    let name = (bytes_eq-Decides a.name b.name).0 r.1 in
    (λ i. record { url = url i; start = start i; end = end i; name = name i })

member-step : (p : Key → Bool) (key x : Key) (rest : Bool) (b : Bool) → same_key key x ≡ b → p x ≡ true → (b || rest) ≡ true → (rest ≡ true → p key ≡ true) → p key ≡ true
member-step p key x rest true is h e more = ap p (same-is key x is) ∙ h
member-step p key x rest false is h e more = more e

member : (p : Key → Bool) (key : Key) (ks : List Key) → list_all p ks ≡ true → list_any (same_key key) ks ≡ true → p key ≡ true
member p key [] h e = absurd cc
member p key (x ∷ xs) h e =
    let both = and_parts (p x) (list_all p xs) h in
    member-step p key x (list_any (same_key key) xs) (same_key key x) refl both.0 e (member p key xs both.1)

zero-within : (held : List Snapshot) (key : Key) → ((at : At) → sum_at held key at ≡ 0) → is_within_limit held key ≡ true
zero-within held key none = all-true (λ at. nat_le (sum_at held key at) limit) (λ at. ap (λ n. nat_le n limit) (none at)) (points key)

within-step : (held : List Snapshot) (key : Key) (b : Bool) → list_any (same_key key) (keys held) ≡ b → fits held ≡ true → is_within_limit held key ≡ true
within-step held key true e h = member (is_within_limit held) key (keys held) (sym (fits-keys held) ∙ h) e
within-step held key false e h = zero-within held key (no-sum held key (no-reports held key e))

-- Where a list fits, each sum at each point of each key is within the limit.
pub fits-each : (held : List Snapshot) → fits held ≡ true → (key : Key) → is_within_limit held key ≡ true
fits-each held h key = within-step held key (list_any (same_key key) (keys held)) refl h

-- ---- sums add up

pub sum_at-append : (xs ys : List Snapshot) (key : Key) (at : At) → sum_at (xs ++ ys) key at ≡ sum_at xs key at + sum_at ys key at
unfolding root total reports
sum_at-append xs ys key Root =
    ap (sum_by root_count) (flat_map-append (λ (snapshot : Snapshot). flat_map (λ (entry : Entry). filter (is_of key entry.url) entry.functions) snapshot) xs ys) ∙ sum_by-append root_count (reports xs key) (reports ys key)
sum_at-append xs ys key (Offset o) =
    ap (sum_by (λ f. inner_count f.ranges o)) (flat_map-append (λ (snapshot : Snapshot). flat_map (λ (entry : Entry). filter (is_of key entry.url) entry.functions) snapshot) xs ys)
    ∙ sum_by-append (λ f. inner_count f.ranges o) (reports xs key) (reports ys key)

less-within : (m n k : ℕ) → m ≤ n → nat_le n k ≡ true → nat_le m k ≡ true
less-within m n k le e = grind (arith, nat_tests)

part-within : (held more : List Snapshot) (s : Snapshot) (key : Key) → is_within_limit ((held ++ more) ++ s ∷ []) key ≡ true → is_within_limit (held ++ s ∷ []) key ≡ true
part-within held more s key h =
    all-more (λ at. nat_le (sum_at ((held ++ more) ++ s ∷ []) key at) limit) (λ at. nat_le (sum_at (held ++ s ∷ []) key at) limit)
    (λ at e.
    less-within (sum_at (held ++ s ∷ []) key at) (sum_at ((held ++ more) ++ s ∷ []) key at) limit
    (omega (arith, sum_at-append held (s ∷ []) key at, sum_at-append (held ++ more) (s ∷ []) key at, sum_at-append held more key at)) e)
    (points key) h

part-fits : (held more : List Snapshot) (s : Snapshot) → fits ((held ++ more) ++ s ∷ []) ≡ true → fits (held ++ s ∷ []) ≡ true
part-fits held more s h =
    fits-keys (held ++ s ∷ [])
    ∙ all-true (is_within_limit (held ++ s ∷ [])) (λ key. part-within held more s key (fits-each ((held ++ more) ++ s ∷ []) h key)) (keys (held ++ s ∷ []))

pub stays_past : StaysPast
stays_past held more s past = by (fits ((held ++ more) ++ s ∷ [])) refl
  where
    by : (b : Bool) → fits ((held ++ more) ++ s ∷ []) ≡ b → fits ((held ++ more) ++ s ∷ []) ≡ false
    by true e = absurd (cc (part-fits held more s e, past))
    by false e = e
