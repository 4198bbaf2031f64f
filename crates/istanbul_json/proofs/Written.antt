-- Lists and objects of JSON values, written one after the other.
use Rattle.std.proofs.Common.{◌≡◌, ℕ, suc, ◌+◌, ◌<◌, ◌≤◌, List, [], ◌∷◌, ◌++◌, length, get_or, drop, map, refl, sym, ap, ◌∙◌, subst, add-one}
use Rattle.std.specs.List.{AllByRecursion}
use Rattle.std.proofs.Math.Seq.{drop-cons}
use Rattle.std.proofs.lemmas.List.{map-append, drop_all}
use Rattle.serde_json.specs.Data.{Data, Items, no_items, item, Members, no_members, put}
use Rattle.serde_json.specs.View.{view, items_of}
use Rattle.serde_json.specs.declared.value.Value.{Value}
use Rattle.json_shapes.specs.Shapes.{array_of}
use Rattle.istanbul_json.specs.Value.{members_by}

-- ---- a list

-- what is written so far, ahead of the rest
abbrev pub ahead : List Data → Items → Items
ahead [] rest = rest
ahead (d ∷ ds) rest = item d (ahead ds rest)

ahead-all : (ds : List Data) → ahead ds no_items ≡ items_of ds
ahead-all [] = refl
ahead-all (d ∷ ds) = ap (item d) (ahead-all ds)

ahead-next : (ds : List Data) (d : Data) (rest : Items) → ahead (ds ++ d ∷ []) rest ≡ ahead ds (item d rest)
ahead-next [] d rest = refl
ahead-next (e ∷ ds) d rest = ap (item e) (ahead-next ds d rest)

from : {A : Type 0} (xs : List A) (i : ℕ) (x : A) → i < length xs → x ≡ get_or xs i x → drop i xs ≡ x ∷ drop (i + 1) xs
from xs i x below is = drop-cons xs i x below ∙ ap (λ y. y ∷ drop (suc i) xs) (sym is) ∙ ap (λ n. x ∷ drop n xs) (sym (add-one i))

pub one-item : {A : Type 0} (shown : A → Data) (xs : List A) (i : ℕ) (x : A) (before after : List Value) (v : Value) (all : Items)
    → i < length xs → x ≡ get_or xs i x → view v ≡ shown x → after ≡ before ++ v ∷ []
    → ahead (map view before) (array_of shown (drop i xs)) ≡ all → ahead (map view after) (array_of shown (drop (i + 1) xs)) ≡ all
one-item shown xs i x before after v all below is seen grown so_far =
    let rest = drop (i + 1) xs in
    ap (λ vs. ahead vs (array_of shown rest)) (ap (map view) grown ∙ map-append view before (v ∷ []))
    ∙ ahead-next (map view before) (view v) (array_of shown rest)
    ∙ ap (λ d. ahead (map view before) (item d (array_of shown rest))) seen
    ∙ ap (λ l. ahead (map view before) (array_of shown l)) (sym (from xs i x below is))
    ∙ so_far

pub all-items : {A : Type 0} (shown : A → Data) (xs : List A) (i : ℕ) (vs : List Value) (all : Items)
    → length xs ≤ i → ahead (map view vs) (array_of shown (drop i xs)) ≡ all → items_of (map view vs) ≡ all
all-items shown xs i vs all past so_far =
    sym (ahead-all (map view vs)) ∙ ap (λ l. ahead (map view vs) (array_of shown l)) (sym (drop_all i xs past)) ∙ so_far

pub one-holds : {A Q : Type 0} (P : A → Type 0) (xs : List A) (i : ℕ) (x : A) → i < length xs → x ≡ get_or xs i x → P x
    → (AllByRecursion P (drop i xs) → Q) → AllByRecursion P (drop (i + 1) xs) → Q
one-holds P xs i x below is p so_far rest = so_far (subst (AllByRecursion P) (sym (from xs i x below is)) (p, rest))

pub all-hold : {A Q : Type 0} (P : A → Type 0) (xs : List A) (i : ℕ) → length xs ≤ i → (AllByRecursion P (drop i xs) → Q) → Q
all-hold P xs i past so_far = so_far (subst (AllByRecursion P) (sym (drop_all i xs past)) tt)

-- a list of no length
pub nothing-left : {A : Type 0} (xs : List A) → length xs ≡ 0 → xs ≡ []
nothing-left [] e = refl
nothing-left (x ∷ xs) e = absurd cc

-- ---- an object, from its last element on

-- the members of these, put into what is there
abbrev pub onto : {A : Type 0} → (A → List ℕ) → (A → Data) → List A → Members → Members
onto key shown [] ms = ms
onto key shown (x ∷ xs) ms = put (key x) (shown x) (onto key shown xs ms)

pub onto-none : {A : Type 0} (key : A → List ℕ) (shown : A → Data) (xs : List A) → onto key shown xs no_members ≡ members_by key shown xs
onto-none key shown [] = refl
onto-none key shown (x ∷ xs) = ap (put (key x) (shown x)) (onto-none key shown xs)

onto-last : {A : Type 0} (key : A → List ℕ) (shown : A → Data) (xs : List A) (x : A) (ms : Members) → onto key shown (xs ++ x ∷ []) ms ≡ onto key shown xs (put (key x) (shown x) ms)
onto-last key shown [] x ms = refl
onto-last key shown (y ∷ xs) x ms = ap (put (key y) (shown y)) (onto-last key shown xs x ms)

pub one-member : {A : Type 0} (key : A → List ℕ) (shown : A → Data) (left rest : List A) (x : A) (before after : Members) (name : List ℕ) (d : Data) (all : Members)
    → left ≡ rest ++ x ∷ [] → name ≡ key x → d ≡ shown x → after ≡ put name d before → onto key shown left before ≡ all → onto key shown rest after ≡ all
one-member key shown left rest x before after name d all is named seen grown so_far =
    ap (onto key shown rest) grown
    ∙ ap (λ k. onto key shown rest (put k d before)) named
    ∙ ap (λ e. onto key shown rest (put (key x) e before)) seen
    ∙ sym (onto-last key shown rest x before)
    ∙ ap (λ l. onto key shown l before) (sym is)
    ∙ so_far

pub all-members : {A : Type 0} (key : A → List ℕ) (shown : A → Data) (left : List A) (ms all : Members) → length left ≡ 0 → onto key shown left ms ≡ all → ms ≡ all
all-members key shown left ms all past so_far = ap (λ l. onto key shown l ms) (sym (nothing-left left past)) ∙ so_far

all-last : {A : Type 0} (P : A → Type 0) (xs : List A) (x : A) → AllByRecursion P xs → P x → AllByRecursion P (xs ++ x ∷ [])
all-last P [] x h p = (p, tt)
all-last P (y ∷ xs) x h p = (h.0, all-last P xs x h.1 p)

pub last-holds : {A Q : Type 0} (P : A → Type 0) (left rest : List A) (x : A) → left ≡ rest ++ x ∷ [] → P x → (AllByRecursion P left → Q) → AllByRecursion P rest → Q
last-holds P left rest x is p so_far h = so_far (subst (AllByRecursion P) (sym is) (all-last P rest x h p))
