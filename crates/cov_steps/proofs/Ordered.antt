-- Of well nested ranges in V8's order the last one that has an offset is the innermost.
use Rattle.std.proofs.Common.{◌≡◌, ℕ, Bool, true, false, List, [], ◌∷◌, refl, sym, ap, ◌∙◌, arith}
use Rattle.std.specs.Prelude.{cond, nat_le, not, filter, Some}
use Rattle.std.specs.List.{list_all}
use Rattle.std.proofs.lemmas.Bool.Decides.{nat_tests}
use Rattle.std.proofs.lemmas.Bool.{and_parts, and_from}
use Rattle.cov_text.specs.Listing.{last_of}
use Rattle.cov_model.specs.declared.report.Range.{Range}
use Rattle.cov_model.specs.Nesting.{size, has_offset, crosses, each_pair, is_shortest}
use Rattle.cov_ranges.specs.Order.{precedes}

-- ---- sizes fall

abbrev pub no_longer : Range → Range → Bool
no_longer a b = nat_le (size b) (size a)

shrinks : (o : ℕ) (a b : Range) → has_offset o a ≡ true → has_offset o b ≡ true → not (crosses a b) ≡ true → precedes a b ≡ true → no_longer a b ≡ true
shrinks o a b ha hb apart before = grind (arith, nat_tests)

-- those of xs that pass, against one that passes
one-filtered : (o : ℕ) (x : Range) (xs : List Range) → has_offset o x ≡ true → list_all (λ y. not (crosses x y)) xs ≡ true → list_all (precedes x) xs ≡ true
    → list_all (no_longer x) (filter (has_offset o) xs) ≡ true
one-filtered o x [] hx apart before = refl
one-filtered o x (y ∷ xs) hx apart before =
    let pa = and_parts (not (crosses x y)) (list_all (λ z. not (crosses x z)) xs) apart in
    let pb = and_parts (precedes x y) (list_all (precedes x) xs) before in
    by (has_offset o y) refl pa.0 pb.0 (one-filtered o x xs hx pa.1 pb.1)
  where
    by : (b : Bool) → has_offset o y ≡ b → not (crosses x y) ≡ true → precedes x y ≡ true → list_all (no_longer x) (filter (has_offset o) xs) ≡ true
        → list_all (no_longer x) (cond b (y ∷ filter (has_offset o) xs) (filter (has_offset o) xs)) ≡ true
    by true hy a p more = and_from (no_longer x y) (list_all (no_longer x) (filter (has_offset o) xs)) (shrinks o x y hx hy a p) more
    by false hy a p more = more

pub sizes-fall : (o : ℕ) (xs : List Range) → each_pair (λ a b. not (crosses a b)) xs ≡ true → each_pair precedes xs ≡ true → each_pair no_longer (filter (has_offset o) xs) ≡ true
sizes-fall o [] apart before = refl
sizes-fall o (x ∷ xs) apart before =
    let pa = and_parts (list_all (λ y. not (crosses x y)) xs) (each_pair (λ a b. not (crosses a b)) xs) apart in
    let pb = and_parts (list_all (precedes x) xs) (each_pair precedes xs) before in
    by (has_offset o x) refl pa.0 pb.0 (sizes-fall o xs pa.1 pb.1)
  where
    by : (b : Bool) → has_offset o x ≡ b → list_all (λ y. not (crosses x y)) xs ≡ true → list_all (precedes x) xs ≡ true → each_pair no_longer (filter (has_offset o) xs) ≡ true
        → each_pair no_longer (cond b (x ∷ filter (has_offset o) xs) (filter (has_offset o) xs)) ≡ true
    by true hx a p more = and_from (list_all (no_longer x) (filter (has_offset o) xs)) (each_pair no_longer (filter (has_offset o) xs)) (one-filtered o x xs hx a p) more
    by false hx a p more = more

-- ---- the last is the shortest

pub all-last : {A : Type 0} (p : A → Bool) (xs : List A) (x : A) → list_all p xs ≡ true → last_of xs ≡ Some x → p x ≡ true
all-last p [] x all last = absurd cc
all-last p (y ∷ []) x all last = let is : y ≡ x = cc in ap p (sym is) ∙ (and_parts (p y) true all).0
all-last p (y ∷ z ∷ xs) x all last = all-last p (z ∷ xs) x (and_parts (p y) (list_all p (z ∷ xs)) all).1 last

size-itself : (x : Range) → nat_le (size x) (size x) ≡ true
size-itself x = grind (arith, nat_tests)

pub last-shortest : (xs : List Range) (x : Range) → each_pair no_longer xs ≡ true → last_of xs ≡ Some x → is_shortest xs x ≡ true
last-shortest [] x pairs last = refl
last-shortest (y ∷ []) x pairs last = let is : y ≡ x = cc in and_from (nat_le (size x) (size y)) true (ap (λ z. nat_le (size x) (size z)) is ∙ size-itself x) refl
last-shortest (y ∷ z ∷ xs) x pairs last =
    let both = and_parts (list_all (no_longer y) (z ∷ xs)) (each_pair no_longer (z ∷ xs)) pairs in
    and_from (nat_le (size x) (size y)) (is_shortest (z ∷ xs) x) (all-last (no_longer y) (z ∷ xs) x both.0 last) (last-shortest (z ∷ xs) x both.1 last)

last-of-cond : {A : Type 0} (b : Bool) (y x : A) (rest : List A) → last_of rest ≡ Some x → last_of (cond b (y ∷ rest) rest) ≡ Some x
last-of-cond false y x rest e = e
last-of-cond true y x [] e = absurd cc
last-of-cond true y x (z ∷ rest) e = e

pub last-kept : {A : Type 0} (p : A → Bool) (xs : List A) (x : A) → last_of xs ≡ Some x → p x ≡ true → last_of (filter p xs) ≡ Some x
last-kept p [] x last passes = absurd cc
last-kept p (y ∷ []) x last passes = let is : y ≡ x = cc in ap (λ b. last_of (cond b (y ∷ []) [])) (ap p is ∙ passes) ∙ last
last-kept p (y ∷ z ∷ xs) x last passes = last-of-cond (p y) y x (filter p (z ∷ xs)) (last-kept p (z ∷ xs) x last passes)
