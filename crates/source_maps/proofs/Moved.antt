-- Sections, one behind the other.
use Rattle.std.proofs.Common.{◌≡◌, ℕ, suc, ◌+◌, ◌<◌, ◌≤◌, Bool, true, false, cond, List, [], ◌∷◌, ◌++◌, length, get_or, drop, add-one, refl, sym, ap, ◌∙◌, arith, append_assoc, length-append, subst}
use Rattle.std.specs.Prelude.{Option, None, Some, Result, Ok, Err, ◌&&◌, map, option_map, nat_le, nat_lt, OnOk, is_err}
use Rattle.std.specs.List.{list_all}
use Rattle.std.proofs.lemmas.List.Folds.{list_all-append}
use Rattle.std.proofs.lemmas.Bool.Decides.{nat_tests}
use Rattle.std.proofs.Math.Seq.{drop-cons}
use Rattle.std.proofs.lemmas.Bool.{and_parts}
use Rattle.serde_json.specs.View.{view, items_view}
use Rattle.serde_json.specs.declared.value.Value.{Value}
use Rattle.vlq_mappings.specs.declared.Origin.{Origin}
use Rattle.vlq_mappings.specs.Kept.{most, origin_is_near, name_is_near}
use Rattle.source_maps.specs.declared.map.MapSegment.{MapSegment}
use Rattle.source_maps.specs.declared.map.MapParts.{MapParts}
use Rattle.source_maps.specs.declared.start.Start.{Start}
use Rattle.source_maps.specs.declared.fault.MapFault.{MapFault}
use Rattle.source_maps.specs.declared.fault.MapFault.TheVariants.{Far}
use Rattle.source_maps.specs.Kept.{AreParts, is_near, is_below, name_is_below, origin_is_below}
use Rattle.source_maps.specs.Maps.{moved, moved_origin, stays_near, indexes_stay_near, joined, all_near, section_of, sections_from}
use Rattle.source_maps.specs.Sections.{IsSection}
use Rattle.source_maps.specs.Answers.{behind_map, behind_near}
use Rattle.json_shapes.specs.Shapes.{◌>>=◌}

-- ---- every segment of a list

-- what follows at each element from what holds of it
list_all-then : {A B : Type 0} (p : A → Bool) (q : B → Bool) (f : A → B) (xs : List A) → ((x : A) → p x ≡ true → q (f x) ≡ true) → list_all p xs ≡ true → list_all q (map f xs) ≡ true
list_all-then p q f [] each all = refl
list_all-then p q f (x ∷ xs) each all =
    elim (p x) as (λ t. p x ≡ t → (t && list_all p xs) ≡ true → (q (f x) && list_all q (map f xs)) ≡ true) [
      | true ↦ λ e h. (λ i. each x e i && list_all q (map f xs)) ∙ list_all-then p q f xs each h
      | false ↦ λ e h. cc
    ] refl all

-- the same from two facts, the second of what it becomes
list_all-both : {A : Type 0} (p q : A → Bool) (r : A → Bool) (f : A → A) (xs : List A) → ((x : A) → p x ≡ true → q (f x) ≡ true → r (f x) ≡ true)
    → list_all p xs ≡ true → list_all q (map f xs) ≡ true → list_all r (map f xs) ≡ true
list_all-both p q r f [] each all more = refl
list_all-both p q r f (x ∷ xs) each all more =
    elim (p x) as (λ t. p x ≡ t → (t && list_all p xs) ≡ true → (r (f x) && list_all r (map f xs)) ≡ true) [
      | true ↦ λ e h.
          elim (q (f x)) as (λ t. q (f x) ≡ t → (t && list_all q (map f xs)) ≡ true → (r (f x) && list_all r (map f xs)) ≡ true) [
            | true ↦ λ e2 h2. (λ i. each x e e2 i && list_all r (map f xs)) ∙ list_all-both p q r f xs each h h2
            | false ↦ λ e2 h2. cc
          ] refl more
      | false ↦ λ e h. cc
    ] refl all

map_same : {A : Type 0} (xs : List A) → map (λ x. x) xs ≡ xs
map_same [] = refl
map_same (x ∷ xs) = ap (λ (l : List _). x ∷ l) (map_same xs)

-- ---- numbers of a segment that is moved

origin_near : (sources names : ℕ) (o : Option Origin) → origin_is_near o ≡ true → indexes_stay_near (option_map (moved_origin sources names) o) ≡ true
    → origin_is_near (option_map (moved_origin sources names) o) ≡ true
origin_near sources names None near stays = refl
origin_near sources names (Some o) near stays =
    let rest = (and_parts (nat_le o.source most) (nat_le o.line most && (nat_le o.column most && name_is_near o.name)) near).1 in
    let line = and_parts (nat_le o.line most) (nat_le o.column most && name_is_near o.name) rest in
    let column = and_parts (nat_le o.column most) (name_is_near o.name) line.1 in
    let indexes = and_parts (nat_le (sources + o.source) most) (name_is_near (option_map (λ n. names + n) o.name)) stays in
    λ i. indexes.0 i && (line.0 i && (column.0 i && indexes.1 i))

moved_near : (start : Start) (sources names : ℕ) (s : MapSegment) → is_near s ≡ true → stays_near (moved start sources names s) ≡ true → is_near (moved start sources names s) ≡ true
moved_near start sources names s near stays =
    let to = moved start sources names s in
    let was = and_parts (nat_le s.line most) (nat_le s.column most && origin_is_near s.origin) near in
    let was_origin = (and_parts (nat_le s.column most) (origin_is_near s.origin) was.1).1 in
    let line = and_parts (nat_le to.line most) (nat_le to.column most && indexes_stay_near to.origin) stays in
    let column = and_parts (nat_le to.column most) (indexes_stay_near to.origin) line.1 in
    let origin = origin_near sources names s.origin was_origin column.1 in
    λ i. line.0 i && (column.0 i && origin i)

pub moved_all_near : (start : Start) (sources names : ℕ) (segments : List MapSegment) → list_all is_near segments ≡ true
    → list_all stays_near (map (moved start sources names) segments) ≡ true → list_all is_near (map (moved start sources names) segments) ≡ true
moved_all_near start sources names segments = list_all-both is_near stays_near is_near (moved start sources names) segments (moved_near start sources names)

-- ---- sources and names of a segment that is moved

below_by : (a x n : ℕ) → nat_lt x n ≡ true → nat_lt (a + x) (a + n) ≡ true
below_by a x n e = grind (arith, nat_tests)

below_wider : (x n m : ℕ) → n ≤ m → nat_lt x n ≡ true → nat_lt x m ≡ true
below_wider x n m le e = grind (arith, nat_tests)

name_below : (names n : ℕ) (name : Option ℕ) → name_is_below n name ≡ true → name_is_below (names + n) (option_map (λ k. names + k) name) ≡ true
name_below names n None e = refl
name_below names n (Some k) e = below_by names k n e

origin_below : (sources names n m : ℕ) (o : Option Origin) → origin_is_below n m o ≡ true → origin_is_below (sources + n) (names + m) (option_map (moved_origin sources names) o) ≡ true
origin_below sources names n m None e = refl
origin_below sources names n m (Some o) e =
    let parts = and_parts (nat_lt o.source n) (name_is_below m o.name) e in
    λ i. below_by sources o.source n parts.0 i && name_below names m o.name parts.1 i

pub moved_all_below : (start : Start) (sources names n m : ℕ) (segments : List MapSegment) → list_all (is_below n m) segments ≡ true
    → list_all (is_below (sources + n) (names + m)) (map (moved start sources names) segments) ≡ true
moved_all_below start sources names n m segments =
    list_all-then (is_below n m) (is_below (sources + n) (names + m)) (moved start sources names) segments (λ s e. origin_below sources names n m s.origin e)

name_wider : (n m : ℕ) (name : Option ℕ) → n ≤ m → name_is_below n name ≡ true → name_is_below m name ≡ true
name_wider n m None le e = refl
name_wider n m (Some k) le e = below_wider k n m le e

origin_wider : (n m n2 m2 : ℕ) (o : Option Origin) → n ≤ n2 → m ≤ m2 → origin_is_below n m o ≡ true → origin_is_below n2 m2 o ≡ true
origin_wider n m n2 m2 None le le2 e = refl
origin_wider n m n2 m2 (Some o) le le2 e =
    let parts = and_parts (nat_lt o.source n) (name_is_below m o.name) e in
    λ i. below_wider o.source n n2 le parts.0 i && name_wider m m2 o.name le2 parts.1 i

all_wider : (n m n2 m2 : ℕ) (segments : List MapSegment) → n ≤ n2 → m ≤ m2 → list_all (is_below n m) segments ≡ true → list_all (is_below n2 m2) segments ≡ true
all_wider n m n2 m2 segments le le2 all =
    ap (list_all (is_below n2 m2)) (sym (map_same segments))
    ∙ list_all-then (is_below n m) (is_below n2 m2) (λ s. s) segments (λ s e. origin_wider n m n2 m2 s.origin le le2 e) all

-- ---- maps, one behind the other

pub parts_joined : (m next : MapParts) → AreParts m → IsSection (length m.sources) (length m.names) next → AreParts (joined m next)
parts_joined m next parts section =
    let sources = length-append m.sources next.sources in
    let names = length-append m.names next.names in
    let a = parts.contents in
    let b = section.contents in
    let ahead = all_wider (length m.sources) (length m.names) (length (m.sources ++ next.sources)) (length (m.names ++ next.names)) m.segments (omega arith) (omega arith) parts.below in
    let behind : list_all (is_below (length (m.sources ++ next.sources)) (length (m.names ++ next.names))) next.segments ≡ true =
    (λ i. list_all (is_below (sources i) (names i)) next.segments) ∙ section.below
    in
    record {
      contents = length-append m.contents next.contents ∙ (λ i. a i + b i) ∙ sym sources;
      near = list_all-append is_near m.segments next.segments ∙ (λ i. parts.near i && section.near i);
      below =
          list_all-append (is_below (length (m.sources ++ next.sources)) (length (m.names ++ next.names))) m.segments next.segments ∙ (λ i. ahead i && behind i);
    }

joined_all : (m next rest : MapParts) → joined (joined m next) rest ≡ joined m (joined next rest)
joined_all m next rest =
    λ i. record {
      sources = append_assoc m.sources next.sources rest.sources i;
      contents = append_assoc m.contents next.contents rest.contents i;
      names = append_assoc m.names next.names rest.names i;
      segments = append_assoc m.segments next.segments rest.segments i;
    }

-- the map so far with a further section, and the rest
pub behind_next : (m next : MapParts) (read : Result MapParts MapFault) → behind_map (joined m next) read ≡ behind_map m (read >>= λ rest. Ok (joined next rest))
behind_next m next (Ok rest) = ap (λ x. Ok x) (joined_all m next rest)
behind_next m next (Err fault) = refl

-- ---- one more section

-- the segments of a section that is read
pub near_ok : (k : ℕ) (xs segments : List MapSegment) → all_near k xs ≡ Ok segments → (segments ≡ xs) × (list_all stays_near xs ≡ true)
near_ok k xs segments e =
    elim (list_all stays_near xs) as (λ t. list_all stays_near xs ≡ t → cond t (Ok xs) (Err (Far k)) ≡ Ok segments → (segments ≡ xs) × (list_all stays_near xs ≡ true)) [
      | true ↦ λ h e2. (cc, h)
      | false ↦ λ h e2. cc
    ] refl e

pub section_is : (start : Start) (sources names k : ℕ) (m : MapParts) (given segments : List MapSegment) → AreParts m → given ≡ m.segments
    → all_near k (map (moved start sources names) given) ≡ Ok segments
    → IsSection sources names (record { sources = m.sources; contents = m.contents; names = m.names; segments = segments })
section_is start sources names k m given segments parts same e =
    let read = near_ok k (map (moved start sources names) given) segments e in
    let to : segments ≡ map (moved start sources names) m.segments = read.0 ∙ ap (map (moved start sources names)) same in
    let stays : list_all stays_near (map (moved start sources names) m.segments) ≡ true = ap (λ l. list_all stays_near (map (moved start sources names) l)) (sym same) ∙ read.1 in
    record {
      contents = parts.contents;
      near = ap (list_all is_near) to ∙ moved_all_near start sources names m.segments parts.near stays;
      below =
          ap (list_all (is_below (sources + length m.sources) (names + length m.names))) to
          ∙ moved_all_below start sources names (length m.sources) (length m.names) m.segments parts.below;
    }

pub parts_next : (m next both : MapParts) (sources names : ℕ) → sources ≡ length m.sources → names ≡ length m.names → both ≡ joined m next → AreParts m
    → IsSection sources names next → AreParts both
parts_next m next both sources names a b to parts section =
    subst AreParts (sym to) (parts_joined m next parts (subst (λ n. IsSection (length m.sources) n next) b (subst (λ n. IsSection n names next) a section)))

pub sections_next : (vs : List Value) (k : ℕ) (v : Value) (ahead : Option Start) (m next both : MapParts) (start : Start) (sources names : ℕ) (all : Result MapParts MapFault)
    → k < length vs → v ≡ get_or vs k v → sources ≡ length m.sources → names ≡ length m.names → both ≡ joined m next
    → section_of k ahead sources names (view v) ≡ Ok (start, next)
    → behind_map m (sections_from k ahead (length m.sources) (length m.names) (items_view (drop k vs))) ≡ all
    → behind_map both (sections_from (k + 1) (Some start) (length both.sources) (length both.names) (items_view (drop (k + 1) vs))) ≡ all
sections_next vs k v ahead m next both start sources names all below is a b to here so_far =
    let front : drop k vs ≡ v ∷ drop (suc k) vs = drop-cons vs k v below ∙ ap (λ (x : Value). x ∷ drop (suc k) vs) (sym is) in
    let rest = items_view (drop (suc k) vs) in
    let s : length both.sources ≡ length m.sources + length next.sources = ap (λ (x : MapParts). length x.sources) to ∙ length-append m.sources next.sources in
    let n : length both.names ≡ length m.names + length next.names = ap (λ (x : MapParts). length x.names) to ∙ length-append m.names next.names in
    let found : section_of k ahead (length m.sources) (length m.names) (view v) ≡ Ok (start, next) = (λ i. section_of k ahead (sym a i) (sym b i) (view v)) ∙ here in
    let after = sections_from (suc k) (Some start) (length m.sources + length next.sources) (length m.names + length next.names) rest in
    (λ i. behind_map both (sections_from (add-one k i) (Some start) (s i) (n i) (items_view (drop (add-one k i) vs))))
    ∙ ap (λ x. behind_map x after) to
    ∙ behind_next m next after
    ∙ sym (ap (λ l. behind_map m (sections_from k ahead (length m.sources) (length m.names) (items_view l))) front
    ∙ ap
    (λ r. behind_map m (r >>= λ (section : Start × MapParts). sections_from (suc k) (Some section.0) (length m.sources + length section.1.sources) (length m.names + length section.1.names) rest >>= λ others. Ok (joined section.1 others)))
    found)
    ∙ so_far

-- ---- one more segment

some_near : (m next : MapSegment) → Some next ≡ cond (stays_near m) (Some m) None → (stays_near m ≡ true) × (next ≡ m)
some_near m next e =
    elim (stays_near m) as (λ t. stays_near m ≡ t → Some next ≡ cond t (Some m) None → (stays_near m ≡ true) × (next ≡ m)) [
      | true ↦ λ h e2. (h, cc)
      | false ↦ λ h e2. cc
    ] refl e

near_more : (k : ℕ) (front : List MapSegment) (m : MapSegment) (rest : List MapSegment) → stays_near m ≡ true
    → behind_near (front ++ m ∷ []) (all_near k rest) ≡ behind_near front (all_near k (m ∷ rest))
near_more k front m rest e =
    elim (list_all stays_near rest) as (λ t. behind_near (front ++ m ∷ []) (cond t (Ok rest) (Err (Far k))) ≡ behind_near front (cond (true && t) (Ok (m ∷ rest)) (Err (Far k)))) [
      | true ↦ ap (λ l. Ok l) (append_assoc front (m ∷ []) rest)
      | false ↦ refl
    ]
    ∙ (λ i. behind_near front (cond (sym e i && list_all stays_near rest) (Ok (m ∷ rest)) (Err (Far k))))

pub near_next : (start : Start) (sources names k : ℕ) (segments : List MapSegment) (i : ℕ) (d : MapSegment) (front after : List MapSegment) (next : MapSegment)
    (all : Result (List MapSegment) MapFault) → i < length segments
    → Some next ≡ cond (stays_near (moved start sources names (get_or segments i d))) (Some (moved start sources names (get_or segments i d))) None
    → after ≡ front ++ next ∷ []
    → behind_near front (all_near k (map (moved start sources names) (drop i segments))) ≡ all
    → behind_near after (all_near k (map (moved start sources names) (drop (i + 1) segments))) ≡ all
near_next start sources names k segments i d front after next all below is grown so_far =
    let m = moved start sources names (get_or segments i d) in
    let rest = map (moved start sources names) (drop (suc i) segments) in
    let near = some_near m next is in
    let cut : map (moved start sources names) (drop i segments) ≡ m ∷ rest = ap (map (moved start sources names)) (drop-cons segments i d below) in
    (λ j. behind_near after (all_near k (map (moved start sources names) (drop (add-one i j) segments))))
    ∙ ap (λ l. behind_near l (all_near k rest)) (grown ∙ ap (λ x. front ++ x ∷ []) near.1)
    ∙ near_more k front m rest near.0
    ∙ sym (ap (λ l. behind_near front (all_near k l)) cut)
    ∙ so_far

-- what a call says that gave no error
pub said_ok : {T E : Type 0} (r : Result T E) (P : Type 0) → OnOk r P → is_err r ≡ false → P
said_ok (Ok x) P h e = h
said_ok (Err x) P h e = cc
