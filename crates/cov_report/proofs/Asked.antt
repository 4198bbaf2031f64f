-- What is asked for, one more source or script at a time.
use Rattle.std.proofs.Common.{◌≡◌, ◌<◌, ◌≤◌, ℕ, List, [], ◌∷◌, ◌++◌, length, take, get_or, map, refl, sym, ap, ◌∙◌, arith, add-one}
use Rattle.std.specs.Prelude.{◌+◌, Option, None, Some, filter_map, flat_map, slice_get}
use Rattle.std.specs.List.{enumerate_from}
use Rattle.std.proofs.lemmas.List.{take_more, take_all, length-take-le, append-nil, append_assoc}
use Rattle.std.proofs.lemmas.List.Concat.{flat_map-append, flat_map-cons}
use Rattle.std.proofs.lemmas.List.Elements.{filter_map-append}
use Rattle.cov_model.specs.declared.snapshot.Entry.{Entry}
use Rattle.source_maps.specs.Entries.{Said}
use Rattle.cov_report.specs.declared.maps.GoodMap.{GoodMap}
use Rattle.cov_report.specs.Wanted.{Asked, mapped_if_named, asked_at, asked, asked_by, entry_for}

-- ---- sources

enumerate-more : {X : Type 0} (n : ℕ) (xs : List X) (x : X) → enumerate_from n (xs ++ x ∷ []) ≡ enumerate_from n xs ++ (n + length xs, x) ∷ []
enumerate-more n [] x = ap (λ k. (k, x) ∷ []) (omega arith)
enumerate-more n (y ∷ xs) x = ap (λ l. (n, y) ∷ l) (enumerate-more (n + 1) xs x ∙ ap (λ k. enumerate_from (n + 1) xs ++ (k, x) ∷ []) (omega arith))

-- those among the first k sources
abbrev pub sources_to : Entry → GoodMap → ℕ → List Asked
sources_to script good k = filter_map (mapped_if_named script good) (enumerate_from 0 (take k good.map.sources))

pub sources-more : (script : Entry) (good : GoodMap) (k : ℕ) (name : Option (List ℕ)) → k < length good.map.sources → name ≡ get_or good.map.sources k name
    → sources_to script good (k + 1) ≡ sources_to script good k ++ asked_at script good (k, name)
sources-more script good k name below is =
    let sources : List (Option (List ℕ)) = good.map.sources in
    let all : take (k + 1) good.map.sources ≡ take k good.map.sources ++ name ∷ [] = take_more good.map.sources k name below ∙ ap (λ x. take k good.map.sources ++ x ∷ []) (sym is) in
    let long : 0 + length (take k good.map.sources) ≡ k = omega (arith, length-take-le k good.map.sources (omega arith)) in
    ap (λ xs. filter_map (mapped_if_named script good) (enumerate_from 0 xs)) all
    ∙ ap (filter_map (mapped_if_named script good)) (enumerate-more 0 (take k good.map.sources) name ∙ ap (λ n. enumerate_from 0 (take k good.map.sources) ++ (n, name) ∷ []) long)
    ∙ filter_map-append (mapped_if_named script good) (enumerate_from 0 (take k good.map.sources)) ((k, name) ∷ [])

pub sources-all : (script : Entry) (good : GoodMap) (k : ℕ) → length good.map.sources ≤ k
    → sources_to script good k ≡ filter_map (mapped_if_named script good) (enumerate_from 0 good.map.sources)
sources-all script good k past = ap (λ xs. filter_map (mapped_if_named script good) (enumerate_from 0 xs)) (take_all k good.map.sources past)

-- ---- scripts

pub asked-none : (entries : List Said) → asked [] entries ≡ []
unfolding asked
asked-none entries = refl

pub asked-more : (scripts : List Entry) (k : ℕ) (script : Entry) (entries : List Said) → k < length scripts → script ≡ get_or scripts k script
    → asked (take (k + 1) scripts) entries ≡ asked (take k scripts) entries ++ asked_by script (entry_for entries script.url)
unfolding asked
asked-more scripts k script entries below is =
    ap (flat_map (λ (s : Entry). asked_by s (entry_for entries s.url))) (take_more scripts k script below ∙ ap (λ x. take k scripts ++ x ∷ []) (sym is))
    ∙ flat_map-append (λ (s : Entry). asked_by s (entry_for entries s.url)) (take k scripts) (script ∷ [])
    ∙ ap (λ l. flat_map (λ (s : Entry). asked_by s (entry_for entries s.url)) (take k scripts) ++ l)
    (flat_map-cons (λ (s : Entry). asked_by s (entry_for entries s.url)) script [] ∙ append-nil (asked_by script (entry_for entries script.url)))
