-- Lists of JSON values, written one after the other.
use Rattle.std.proofs.Common.{◌≡◌, ℕ, suc, ◌+◌, ◌<◌, ◌≤◌, List, [], ◌∷◌, ◌++◌, length, get_or, drop, refl, sym, ap, ◌∙◌, add-one}
use Rattle.std.specs.Prelude.{map}
use Rattle.std.proofs.Math.Seq.{drop-cons}
use Rattle.std.proofs.lemmas.List.{map-append, drop_all}
use Rattle.serde_json.specs.Data.{Data, Items, no_items, item}
use Rattle.serde_json.specs.View.{items_of}

-- what is written so far, ahead of the rest
abbrev pub ahead : List Data → Items → Items
ahead [] rest = rest
ahead (d ∷ ds) rest = item d (ahead ds rest)

ahead-all : (ds : List Data) → ahead ds no_items ≡ items_of ds
ahead-all [] = refl
ahead-all (d ∷ ds) = ap (item d) (ahead-all ds)

ahead-next : (ds : List Data) (d : Data) (rest : Items) → ahead (ds ++ d ∷ []) rest ≡ ahead ds (item d rest)
ahead-next [] d rest = refl
ahead-next (e ∷ ds) d rest = ap (item e) (ahead-next ds d rest)

-- One more of a list is written: `given` is what the list is as data from a place on, and `shown` what an element is.
pub one-more : {A V : Type 0} (view : V → Data) (given : ℕ → List A → Items) (shown : ℕ → A → Data)
    → ((k : ℕ) (x : A) (rest : List A) → given k (x ∷ rest) ≡ item (shown k x) (given (suc k) rest))
    → (xs : List A) (i : ℕ) (x : A) (before after : List V) (v : V) (all : Items)
    → i < length xs → x ≡ get_or xs i x → view v ≡ shown i x → after ≡ before ++ v ∷ []
    → ahead (map view before) (given i (drop i xs)) ≡ all → ahead (map view after) (given (i + 1) (drop (i + 1) xs)) ≡ all
one-more view given shown unrolls xs i x before after v all below is seen grown so_far =
    let rest = drop (suc i) xs in
    let front : drop i xs ≡ x ∷ rest = drop-cons xs i x below ∙ ap (λ y. y ∷ rest) (sym is) in
    ap (λ n. ahead (map view after) (given n (drop n xs))) (add-one i)
    ∙ ap (λ vs. ahead vs (given (suc i) rest)) (ap (map view) grown ∙ map-append view before (v ∷ []))
    ∙ ahead-next (map view before) (view v) (given (suc i) rest)
    ∙ ap (λ d. ahead (map view before) (item d (given (suc i) rest))) seen
    ∙ ap (ahead (map view before)) (sym (ap (given i) front ∙ unrolls i x rest))
    ∙ so_far

-- All of a list is written.
pub all-written : {A V : Type 0} (view : V → Data) (given : ℕ → List A → Items)
    → ((k : ℕ) → given k [] ≡ no_items) → (xs : List A) (i : ℕ) (vs : List V) (all : Items)
    → length xs ≤ i → ahead (map view vs) (given i (drop i xs)) ≡ all → items_of (map view vs) ≡ all
all-written view given ends xs i vs all past so_far =
    sym (ahead-all (map view vs)) ∙ ap (ahead (map view vs)) (sym (ap (given i) (drop_all i xs past) ∙ ends i)) ∙ so_far
