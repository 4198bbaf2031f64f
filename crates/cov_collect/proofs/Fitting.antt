-- Where all snapshots fit together, the order in which they are taken is nothing to the answers and the file.
use Rattle.std.proofs.Common.{◌≡◌, ℕ, zero, suc, ◌<◌, Bool, true, false, List, [], ◌∷◌, ◌++◌, length, map, refl, sym, ap, ap₂, ◌∙◌, subst, arith, append_assoc, nat_eq, slice_get, slice_set}
use Rattle.std.specs.Prelude.{Option, None, Some, Ok, Err, is_some, is_none, filter_map, option_map, unwrap_or, ◌||◌}
use Rattle.std.specs.List.{list_any, AllByRecursion, IsDistinct, cons_option}
use Rattle.std.specs.List.Sorted.{IsPermutation}
use Rattle.std.proofs.lemmas.Bool.{false≢true}
use Rattle.std.proofs.lemmas.Bool.Decides.{Decides-eqb, nat_tests}
use Rattle.std.proofs.lemmas.List.{append-nil, length-map}
use Rattle.std.proofs.lemmas.List.Sorted.{IsPermutation-refl, IsPermutation-trans, IsPermutation-sym, IsPermutation-append_left, IsPermutation-append_right, IsPermutation-append_comm}
use Rattle.std.proofs.lemmas.Option.{slice_get-map, slice_get_within}
use Rattle.cov_model.specs.declared.snapshot.Snapshot.{Snapshot}
use Rattle.cov_model.specs.declared.sums.Answer.{Answer}
use Rattle.cov_model.specs.declared.sums.Answer.TheVariants.{Taken, Bad}
use Rattle.cov_model.specs.declared.sums.SumFault.{SumFault}
use Rattle.cov_model.specs.Sums.{fits, sum_fault}
use Rattle.cov_model.specs.Outcome.{Reading, IsOrder, IsOutcome, picked, accepted_over, answers_over, joined, taken_or_past}
use Rattle.cov_model.proofs.Fits.{joins_where_it_fits}
use Rattle.cov_model.proofs.Grows.{stays_past}
use Rattle.cov_book.specs.Laws.{ComeToOne}
use Rattle.cov_book.proofs.Parts.{any_order}
use Rattle.cov_collect.specs.Batchwise.{FitsInAnyOrder, IsWholeOrder, own, snapshots_in}

-- the answer to a reading that fits, or is none
abbrev pub own_answer : Reading → Answer
own_answer (Ok s) = Taken
own_answer (Err fault) = Bad fault

-- ---- where all fit, all are taken

front-fits : (held more : List Snapshot) (s : Snapshot) → fits ((held ++ s ∷ []) ++ more) ≡ true → fits (held ++ s ∷ []) ≡ true
front-fits held more s all = by (fits (held ++ s ∷ [])) refl
  where
    moved : IsPermutation ((held ++ s ∷ []) ++ more) ((held ++ more) ++ s ∷ [])
    moved =
        subst (λ xs. IsPermutation xs ((held ++ more) ++ s ∷ [])) (sym (append_assoc held (s ∷ []) more))
        (subst (λ xs. IsPermutation (held ++ (s ∷ [] ++ more)) xs) (sym (append_assoc held more (s ∷ [])))
        (IsPermutation-append_right held (s ∷ [] ++ more) (more ++ s ∷ []) (IsPermutation-append_comm (s ∷ []) more)))

    by : (b : Bool) → fits (held ++ s ∷ []) ≡ b → fits (held ++ s ∷ []) ≡ true
    by true e = e
    by false e = absurd (false≢true (sym (stays_past held more s e) ∙ sym (any_order _ _ moved).fit ∙ all))

none-joined : (held : List Snapshot) (s : Snapshot) (o : Option SumFault) → is_none o ≡ true → (joined held s o ≡ held ++ s ∷ []) × (taken_or_past o ≡ Taken)
none-joined held s None e = (refl, refl)
none-joined held s (Some fault) e = absurd cc

pub all-taken : (held : List Snapshot) (rs : List Reading) → fits (held ++ snapshots_in rs) ≡ true
    → (accepted_over held rs ≡ held ++ snapshots_in rs) × (answers_over held rs ≡ map own_answer rs)
unfolding accepted_over answers_over
all-taken held [] all = (sym (append-nil held), refl)
all-taken held (Err fault ∷ rs) all =
    let rest = all-taken held rs all in
    (rest.0, ap (λ (xs : List Answer). Bad fault ∷ xs) rest.1)
all-taken held (Ok s ∷ rs) all =
    let more : fits ((held ++ s ∷ []) ++ snapshots_in rs) ≡ true = ap fits (append_assoc held (s ∷ []) (snapshots_in rs)) ∙ all in
    let one = none-joined held s (sum_fault held s) (joins_where_it_fits held s ∙ front-fits held (snapshots_in rs) s more) in
    let rest = all-taken (held ++ s ∷ []) rs more in (
      ap (λ (xs : List Snapshot). accepted_over xs rs) one.0 ∙ rest.0 ∙ append_assoc held (s ∷ []) (snapshots_in rs),
      ap₂ (λ (a : Answer) (xs : List Answer). a ∷ xs) one.1 (ap (λ (xs : List Snapshot). answers_over xs rs) one.0 ∙ rest.1),
    )

-- ---- the readings in an order

-- the readings that are left
at : List (Option Reading) → ℕ → Option Reading
at xs p = unwrap_or (slice_get xs p) None

left : List (Option Reading) → List Snapshot
left [] = []
left (None ∷ xs) = left xs
left (Some r ∷ xs) = own r ++ left xs

get-set-same : (xs : List (Option Reading)) (p : ℕ) → at (slice_set xs p None) p ≡ None
unfolding at
get-set-same [] p = refl
get-set-same (x ∷ xs) zero = refl
get-set-same (x ∷ xs) (suc p) = get-set-same xs p

get-set-other : (xs : List (Option Reading)) (p q : ℕ) → nat_eq p q ≡ false → at (slice_set xs p None) q ≡ at xs q
unfolding at
get-set-other [] p q e = refl
get-set-other (x ∷ xs) zero zero e = absurd cc
get-set-other (x ∷ xs) zero (suc q) e = refl
get-set-other (x ∷ xs) (suc p) zero e = refl
get-set-other (x ∷ xs) (suc p) (suc q) e = get-set-other xs p q (grind (arith, nat_tests))

left-none : (xs : List (Option Reading)) → ((q : ℕ) → false ≡ is_some (at xs q)) → left xs ≡ []
unfolding left at
left-none [] h = refl
left-none (None ∷ xs) h = left-none xs (λ q. h (suc q))
left-none (Some r ∷ xs) h = absurd (false≢true (h 0))

left-set : (xs : List (Option Reading)) (p : ℕ) (r : Reading) → at xs p ≡ Some r → IsPermutation (left xs) (own r ++ left (slice_set xs p None))
unfolding left at
left-set [] p r e = absurd cc
left-set (None ∷ xs) zero r e = absurd cc
left-set (Some x ∷ xs) zero r e =
    let same : x ≡ r = cc in
    subst (λ (y : Reading). IsPermutation (own x ++ left xs) (own y ++ left xs)) same (IsPermutation-refl (own x ++ left xs))
left-set (None ∷ xs) (suc p) r e = left-set xs p r e
left-set (Some x ∷ xs) (suc p) r e =
    let rest = left (slice_set xs p None) in
    IsPermutation-trans (own x ++ left xs) (own x ++ (own r ++ rest)) (own r ++ (own x ++ rest))
    (IsPermutation-append_right (own x) (left xs) (own r ++ rest) (left-set xs p r e))
    (subst (λ zs. IsPermutation zs (own r ++ (own x ++ rest))) (append_assoc (own x) (own r) rest)
    (subst (λ zs. IsPermutation ((own x ++ own r) ++ rest) zs) (append_assoc (own r) (own x) rest)
    (IsPermutation-append_left rest (own x ++ own r) (own r ++ own x) (IsPermutation-append_comm (own x) (own r)))))

none-of : (p : ℕ) (ps : List ℕ) → AllByRecursion (λ q. nat_eq p q ≡ false) ps → list_any (nat_eq p) ps ≡ false
none-of p [] h = refl
none-of p (q ∷ ps) h = ap (λ b. b || list_any (nat_eq p) ps) h.0 ∙ none-of p ps h.1

others-stay : (xs : List (Option Reading)) (p : ℕ) (ps : List ℕ) → AllByRecursion (λ q. nat_eq p q ≡ false) ps
    → filter_map (at (slice_set xs p None)) ps ≡ filter_map (at xs) ps
others-stay xs p [] h = refl
others-stay xs p (q ∷ ps) h =
    ap (λ o. cons_option o (filter_map (at (slice_set xs p None)) ps)) (get-set-other xs p q h.0) ∙ ap (cons_option (at xs q)) (others-stay xs p ps h.1)

some-is : (o : Option Reading) → true ≡ is_some o → (r : Reading) × (o ≡ Some r)
some-is None e = absurd cc
some-is (Some r) e = (r, refl)

eq-self : (p : ℕ) → nat_eq p p ≡ true
eq-self p = grind (arith, nat_tests)

-- an order of the places that are left is an order of their snapshots
in-order : (order : List ℕ) (xs : List (Option Reading)) → IsDistinct nat_eq order → ((q : ℕ) → list_any (nat_eq q) order ≡ is_some (at xs q))
    → IsPermutation (left xs) (snapshots_in (filter_map (at xs) order))
unfolding IsDistinct
in-order [] xs apart h = subst (λ zs. IsPermutation zs []) (sym (left-none xs h)) (IsPermutation-refl [])
in-order (p ∷ ps) xs apart h =
    let there = some-is (at xs p) (sym (ap (λ b. b || list_any (nat_eq p) ps) (eq-self p)) ∙ h p) in
    let r = there.0 in
    let ys = slice_set xs p None in
    let rest : IsPermutation (left ys) (snapshots_in (filter_map (at ys) ps)) = in-order ps ys apart.1 (λ q. by q (nat_eq q p) refl) in
    let same : snapshots_in (filter_map (at xs) (p ∷ ps)) ≡ own r ++ snapshots_in (filter_map (at ys) ps) =
    ap (λ o. snapshots_in (cons_option o (filter_map (at xs) ps))) there.1 ∙ ap (λ rs. own r ++ snapshots_in rs) (sym (others-stay xs p ps apart.0)) in
    subst (IsPermutation (left xs)) (sym same)
    (IsPermutation-trans (left xs) (own r ++ left ys) (own r ++ snapshots_in (filter_map (at ys) ps)) (left-set xs p r there.1)
    (IsPermutation-append_right (own r) (left ys) (snapshots_in (filter_map (at ys) ps)) rest))
  where
    by : (q : ℕ) (b : Bool) → nat_eq q p ≡ b → list_any (nat_eq q) ps ≡ is_some (at (slice_set xs p None) q)
    by q true e =
        let is : q ≡ p = (Decides-eqb q p).0 e in
        ap (λ m. list_any (nat_eq m) ps) is ∙ none-of p ps apart.0 ∙ sym (ap (λ m. is_some (at (slice_set xs p None) m)) is ∙ ap is_some (get-set-same xs p))
    by q false e =
        let other : nat_eq p q ≡ false = grind (arith, nat_tests) in
        ap (λ b. b || list_any (nat_eq q) ps) (sym e) ∙ h q ∙ sym (ap is_some (get-set-other xs p q other))

left-all : (rs : List Reading) → left (map Some rs) ≡ snapshots_in rs
unfolding left
left-all [] = refl
left-all (r ∷ rs) = ap (λ xs. own r ++ xs) (left-all rs)

at-all : (rs : List Reading) (p : ℕ) → at (map Some rs) p ≡ slice_get rs p
unfolding at
at-all [] p = refl
at-all (r ∷ rs) zero = refl
at-all (r ∷ rs) (suc p) = at-all rs p

picked-all : (rs : List Reading) (order : List ℕ) → filter_map (at (map Some rs)) order ≡ picked rs order
picked-all rs [] = refl
picked-all rs (p ∷ ps) =
    ap (λ o. cons_option o (filter_map (at (map Some rs)) ps)) (at-all rs p) ∙ ap (cons_option (slice_get rs p)) (picked-all rs ps)

among : (order : List ℕ) (n q : ℕ) → AllByRecursion (λ p. p < n) order → list_any (nat_eq q) order ≡ true → q < n
among [] n q within e = absurd cc
among (p ∷ ps) n q within e = by (nat_eq q p) refl (λ later. among ps n q within.1 later)
  where
    by : (b : Bool) → nat_eq q p ≡ b → (list_any (nat_eq q) ps ≡ true → q < n) → q < n
    by true is later = subst (λ m. m < n) (sym ((Decides-eqb q p).0 is)) within.0
    by false is later = later (ap (λ b. b || list_any (nat_eq q) ps) (sym is) ∙ e)

none-past : (rs : List Reading) (q : ℕ) → q < length rs → slice_get rs q ≡ None → ⊥
none-past [] q l e = omega (arith, l)
none-past (r ∷ rs) zero l e = absurd cc
none-past (r ∷ rs) (suc q) l e = none-past rs q (omega arith) e

covers : (rs : List Reading) (order : List ℕ) → IsOrder (length rs) order → ((place : ℕ) → place < length rs → list_any (nat_eq place) order ≡ true)
    → (q : ℕ) → list_any (nat_eq q) order ≡ is_some (at (map Some rs) q)
covers rs order is every q = by (slice_get rs q) refl (list_any (nat_eq q) order) refl
  where
    by : (o : Option Reading) → slice_get rs q ≡ o → (b : Bool) → list_any (nat_eq q) order ≡ b → list_any (nat_eq q) order ≡ is_some (at (map Some rs) q)
    by (Some r) e b f = every q (slice_get_within rs q r e) ∙ sym (ap is_some (at-all rs q ∙ e))
    by None e true f = absurd (none-past rs q (among order (length rs) q is.within f) e)
    by None e false f = f ∙ sym (ap is_some (at-all rs q ∙ e))

-- a whole order of readings has the same snapshots
permuted : (rs : List Reading) (order : List ℕ) → IsOrder (length rs) order → ((place : ℕ) → place < length rs → list_any (nat_eq place) order ≡ true)
    → IsPermutation (snapshots_in rs) (snapshots_in (picked rs order))
permuted rs order is every =
    subst (λ zs. IsPermutation zs (snapshots_in (picked rs order))) (left-all rs)
    (subst (λ zs. IsPermutation (left (map Some rs)) (snapshots_in zs)) (picked-all rs order) (in-order order (map Some rs) is.distinct (covers rs order is every)))

-- ---- the answers by place

picked-map : {A B : Type 0} (f : A → B) (xs : List A) (order : List ℕ) → map f (filter_map (slice_get xs) order) ≡ filter_map (slice_get (map f xs)) order
picked-map f xs [] = refl
picked-map f xs (p ∷ ps) = step (slice_get xs p) ∙ ap₂ cons_option (sym (slice_get-map f xs p)) (picked-map f xs ps)
  where
    step : (o : Option _) → map f (cons_option o (filter_map (slice_get xs) ps)) ≡ cons_option (option_map f o) (map f (filter_map (slice_get xs) ps))
    step None = refl
    step (Some x) = refl

some-at : {A : Type 0} (xs : List A) (q : ℕ) → q < length xs → (x : A) × (slice_get xs q ≡ Some x)
some-at [] q l = absurd (omega arith)
some-at (x ∷ xs) zero l = (x, refl)
some-at (x ∷ xs) (suc q) l = some-at xs q (omega arith)

same-at : {A : Type 0} (xs ys : List A) (n : ℕ) → length xs ≡ n → length ys ≡ n → (order : List ℕ) → AllByRecursion (λ p. p < n) order
    → filter_map (slice_get xs) order ≡ filter_map (slice_get ys) order → (p : ℕ) → list_any (nat_eq p) order ≡ true → slice_get xs p ≡ slice_get ys p
same-at xs ys n one two [] within e p there = absurd cc
same-at xs ys n one two (q ∷ qs) within e p there =
    both-at xs ys q qs p e there (some-at xs q (omega (arith, within.0, one))) (some-at ys q (omega (arith, within.0, two)))
    (λ tail later. same-at xs ys n one two qs within.1 tail p later)
  where
    both-at : {A : Type 0} (xs ys : List A) (q : ℕ) (qs : List ℕ) (p : ℕ) → filter_map (slice_get xs) (q ∷ qs) ≡ filter_map (slice_get ys) (q ∷ qs)
        → list_any (nat_eq p) (q ∷ qs) ≡ true → ((x : A) × (slice_get xs q ≡ Some x)) → ((y : A) × (slice_get ys q ≡ Some y))
        → (filter_map (slice_get xs) qs ≡ filter_map (slice_get ys) qs → list_any (nat_eq p) qs ≡ true → slice_get xs p ≡ slice_get ys p)
        → slice_get xs p ≡ slice_get ys p
    both-at xs ys q qs p e there x y rest =
        let both : x.0 ∷ filter_map (slice_get xs) qs ≡ y.0 ∷ filter_map (slice_get ys) qs =
        sym (ap (λ o. cons_option o (filter_map (slice_get xs) qs)) x.1) ∙ e ∙ ap (λ o. cons_option o (filter_map (slice_get ys) qs)) y.1 in
        let head : x.0 ≡ y.0 = cc in
        let tail : filter_map (slice_get xs) qs ≡ filter_map (slice_get ys) qs = cc in
        by (nat_eq p q) refl (x.1 ∙ ap Some head ∙ sym y.1) (rest tail)
      where
        by : (b : Bool) → nat_eq p q ≡ b → slice_get xs q ≡ slice_get ys q → (list_any (nat_eq p) qs ≡ true → slice_get xs p ≡ slice_get ys p) → slice_get xs p ≡ slice_get ys p
        by true is here later = let at : p ≡ q = (Decides-eqb p q).0 is in ap (slice_get xs) at ∙ here ∙ ap (slice_get ys) (sym at)
        by false is here later = later (ap (λ b. b || list_any (nat_eq p) qs) (sym is) ∙ there)

same-list : {A : Type 0} (xs ys : List A) → length xs ≡ length ys → ((p : ℕ) → p < length xs → slice_get xs p ≡ slice_get ys p) → xs ≡ ys
same-list [] [] long h = refl
same-list [] (y ∷ ys) long h = absurd (omega (arith, long))
same-list (x ∷ xs) [] long h = absurd (omega (arith, long))
same-list (x ∷ xs) (y ∷ ys) long h =
    let first : Some x ≡ Some y = h 0 (omega arith) in
    let head : x ≡ y = cc in
    ap₂ (λ z zs. z ∷ zs) head (same-list xs ys (omega (arith, long)) (λ p below. h (suc p) (omega (arith, below))))

-- ---- what fits

pub fitting : (rs : List Reading) (order : List ℕ) (given : List Answer) → IsWholeOrder (length rs) order → length given ≡ length rs
    → IsOutcome [] rs order (filter_map (slice_get given) order) → FitsInAnyOrder rs order given
fitting rs order given whole answered outcome all =
    let perm = permuted rs order whole.order_is whole.every in
    let plain = all-taken [] rs all in
    let other = all-taken [] (picked rs order) (sym (any_order _ _ perm).fit ∙ all) in
    let long : length (map own_answer rs) ≡ length rs = length-map rs own_answer in
    let picks : filter_map (slice_get given) order ≡ filter_map (slice_get (map own_answer rs)) order = outcome ∙ other.1 ∙ picked-map own_answer rs order in (
      same-list given (map own_answer rs) (answered ∙ sym long) (λ p below.
          same-at given (map own_answer rs) (length rs) answered long order whole.order_is.within picks p (whole.every p (omega (arith, below, answered))))
          ∙ sym plain.1,
      subst (λ xs. ComeToOne xs (accepted_over [] rs)) (sym other.0)
          (subst (ComeToOne (snapshots_in (picked rs order))) (sym plain.0) (any_order _ _ (IsPermutation-sym _ _ perm))),
    )
