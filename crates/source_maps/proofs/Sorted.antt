-- A stable sort puts segments by spot.
use Rattle.std.proofs.Common.{◌≡◌, ℕ, Bool, true, false, cond, List, [], ◌∷◌, length, refl, sym, ap, ◌∙◌, subst, Bor}
use Rattle.std.specs.Prelude.{filter, not, ◌&&◌}
use Rattle.std.specs.List.{list_all}
use Rattle.std.specs.List.Sorted.{IsSortedByKey, IsStableByKey, IsSortedByKeyClosure, IsStableByKeyClosure, ties}
use Rattle.std.specs.Fn.{Called}
use denote.Param.Members.{Mut}
use Rattle.std.proofs.lemmas.Fn.{always_returns_same}
use Rattle.source_maps.specs.declared.map.MapParts.{MapParts}
use Rattle.source_maps.specs.Kept.{AreParts, IsMap, is_near, is_below}
use Rattle.std.proofs.lemmas.Bool.{and_parts, not-true}
use Rattle.source_maps.specs.declared.map.MapSegment.{MapSegment}
use Rattle.source_maps.specs.At.{spot_of, spot_cmp, is_earlier, placed, by_spot}
use Rattle.source_maps.proofs.Spots.{spots_order}
use Rattle.cov_text.proofs.Bools.{swap-and}
use Rattle.cov_text.proofs.Rising as ranked

-- ---- lists in order

-- none of these begins earlier
abbrev none_earlier : MapSegment → List MapSegment → Bool
none_earlier = ranked.none_less is_earlier spots_order

abbrev Rising : List MapSegment → Type 0
Rising = ranked.Rising is_earlier spots_order

none_earlier_than : (s o : MapSegment) (others : List MapSegment) → is_earlier o s ≡ false → none_earlier o others ≡ true → none_earlier s others ≡ true
none_earlier_than s o [] e all = refl
none_earlier_than s o (z ∷ others) e all =
    let parts = and_parts (not (is_earlier z o)) (none_earlier o others) all in
    let here : is_earlier z s ≡ false = spots_order.chain z o s (not-true (is_earlier z o) parts.0) e in
    (λ i. not (here i) && none_earlier s others) ∙ none_earlier_than s o others e parts.1

-- ---- a segment that is placed

pub list_all-placed : (q : MapSegment → Bool) (s : MapSegment) (others : List MapSegment) → list_all q (placed s others) ≡ (q s && list_all q others)
list_all-placed q s [] = refl
list_all-placed q s (o ∷ others) =
    elim (is_earlier o s) as (λ t. list_all q (cond t (o ∷ placed s others) (s ∷ o ∷ others)) ≡ (q s && (q o && list_all q others))) [
      | true ↦ ap (λ t. q o && t) (list_all-placed q s others) ∙ swap-and (q o) (q s) (list_all q others)
      | false ↦ refl
    ]

pub list_all-by_spot : (q : MapSegment → Bool) (segments : List MapSegment) → list_all q (by_spot segments) ≡ list_all q segments
list_all-by_spot q [] = refl
list_all-by_spot q (s ∷ segments) = list_all-placed q s (by_spot segments) ∙ ap (λ t. q s && t) (list_all-by_spot q segments)

rising-placed : (s : MapSegment) (others : List MapSegment) → Rising others → Rising (placed s others)
rising-placed s [] up = (refl, tt)
rising-placed s (o ∷ others) up =
    elim (is_earlier o s) as (λ t. is_earlier o s ≡ t → Rising (cond t (o ∷ placed s others) (s ∷ o ∷ others))) [
      | true ↦ λ e.
          let later : is_earlier s o ≡ false = spots_order.one_way o s e in
          (list_all-placed (λ z. not (is_earlier z o)) s others ∙ (λ i. not (later i) && none_earlier o others) ∙ up.0, rising-placed s others up.1)
      | false ↦ λ e. ((λ i. not (e i) && none_earlier s others) ∙ none_earlier_than s o others e up.0, up)
    ] refl

rising-by_spot : (segments : List MapSegment) → Rising (by_spot segments)
rising-by_spot [] = tt
rising-by_spot (s ∷ segments) = rising-placed s (by_spot segments) (rising-by_spot segments)

-- both can't tie with z
swap_apart : (z o s : MapSegment) (rest : List MapSegment) (t u : Bool) → ties is_earlier z o ≡ t → ties is_earlier z s ≡ u → is_earlier o s ≡ true
    → cond t (o ∷ cond u (s ∷ rest) rest) (cond u (s ∷ rest) rest) ≡ cond u (s ∷ cond t (o ∷ rest) rest) (cond t (o ∷ rest) rest)
swap_apart z o s rest true true e f lt =
    let same : is_earlier o s ≡ false = spots_order.chain o z s (ranked.tied is_earlier spots_order z o e).1 (ranked.tied is_earlier spots_order z s f).0 in
    cc
swap_apart z o s rest true false e f lt = refl
swap_apart z o s rest false true e f lt = refl
swap_apart z o s rest false false e f lt = refl

stable-placed : (z s : MapSegment) (others : List MapSegment) → filter (ties is_earlier z) (placed s others) ≡ filter (ties is_earlier z) (s ∷ others)
stable-placed z s [] = refl
stable-placed z s (o ∷ others) =
    let p = ties is_earlier z in
    let rest = filter p others in
    elim (is_earlier o s) as (λ t. is_earlier o s ≡ t → filter p (cond t (o ∷ placed s others) (s ∷ o ∷ others)) ≡ filter p (s ∷ o ∷ others)) [
      | true ↦ λ e.
          ap (λ (l : List MapSegment). cond (p o) (o ∷ l) l) (stable-placed z s others) ∙ swap_apart z o s rest (p o) (p s) refl refl e
      | false ↦ λ e. refl
    ] refl

stable-by_spot : (z : MapSegment) (segments : List MapSegment) → filter (ties is_earlier z) (by_spot segments) ≡ filter (ties is_earlier z) segments
stable-by_spot z [] = refl
stable-by_spot z (s ∷ segments) =
    stable-placed z s (by_spot segments) ∙ ap (λ (l : List MapSegment). cond (ties is_earlier z s) (s ∷ l) l) (stable-by_spot z segments)

-- a list that is sorted, and stable, is the one by spot
pub sorted_by_spot : (xs ys : List MapSegment) → IsSortedByKey spot_of spot_cmp ys → IsStableByKey spot_of spot_cmp xs ys → ys ≡ by_spot xs
sorted_by_spot xs ys up stable =
    ranked.one_order is_earlier spots_order ys (by_spot xs) (ranked.rising-sorted is_earlier spots_order ys up) (rising-by_spot xs)
    (λ z. stable z ∙ sym (stable-by_spot z xs))

-- ---- the sort of a map's segments

-- what is sorted, by a closure that gives the spot
pub record IsSorted (xs ys : List MapSegment) : Type 0 where
  pub same : ys ≡ by_spot xs
  pub ordered : IsSortedByKey spot_of spot_cmp ys

pub sort_done : {F : Type 0} {g : Mut F (Bor MapSegment × Unit {0}) (ℕ × ℕ)} {f : F} (xs ys : List MapSegment)
    → IsSortedByKeyClosure g spot_cmp f ys → IsStableByKeyClosure g spot_cmp f xs ys
    → ((a : Bor MapSegment × Unit {0}) (r : ℕ × ℕ) (f' : F) → Called g f a r f' → (r ≡ spot_of a.0.now) × (f' ≡ f)) → IsSorted xs ys
sort_done {g = g} {f = f} xs ys up stable h =
    let computes = always_returns_same g (λ a r. r ≡ spot_of a.0.now) f h in
    record { same = sorted_by_spot xs ys (up spot_of computes) (stable spot_of computes); ordered = up spot_of computes }

pub map_sorted : (m : MapParts) (xs ys zs : List MapSegment) → AreParts m → xs ≡ m.segments → zs ≡ ys → IsSorted xs ys
    → IsMap (record { sources = m.sources; contents = m.contents; names = m.names; segments = zs })
map_sorted m xs ys zs parts given made sorted =
    let to : zs ≡ by_spot m.segments = made ∙ sorted.same ∙ ap by_spot given in
    record {
      parts = record {
        contents = parts.contents;
        near = ap (list_all is_near) to ∙ list_all-by_spot is_near m.segments ∙ parts.near;
        below =
            ap (list_all (is_below (length m.sources) (length m.names))) to ∙ list_all-by_spot (is_below (length m.sources) (length m.names)) m.segments ∙ parts.below;
      };
      ordered = subst (IsSortedByKey spot_of spot_cmp) (sym made) sorted.ordered;
    }

pub made_by_spot : (m : MapParts) (xs ys zs : List MapSegment) (made : MapParts) → xs ≡ m.segments → zs ≡ ys → IsSorted xs ys
    → made ≡ record { sources = m.sources; contents = m.contents; names = m.names; segments = zs }
    → made ≡ record { sources = m.sources; contents = m.contents; names = m.names; segments = by_spot m.segments }
made_by_spot m xs ys zs made given to sorted is =
    is
    ∙ ap (λ (s : List MapSegment). record { sources = m.sources; contents = m.contents; names = m.names; segments = s }) (to ∙ sorted.same ∙ ap by_spot given)
