-- What holds of the segments that a text of mappings gives.
use Rattle.std.proofs.Common.{◌≡◌, ℕ, suc, ◌+◌, ◌-◌, ◌<◌, ◌≤◌, Bool, true, false, cond, List, [], ◌∷◌, ◌++◌, length, get_or, drop, refl, sym, ap, ◌∙◌, arith, add-one, append_assoc, length-append, subst}
use Rattle.std.specs.Prelude.{Option, None, Some, Result, Ok, Err, IfOk, not, ◌&&◌, map, nat_le, position, replicate}
use Rattle.std.specs.List.{list_all, position_from}
use Rattle.std.proofs.Math.Seq.{drop-cons}
use Rattle.std.proofs.lemmas.List.{drop_all}
use Rattle.std.proofs.lemmas.List.Folds.{list_all-append}
use Rattle.std.proofs.lemmas.Iterator.Adapters.{position_from-zero}
use Rattle.std.proofs.lemmas.Bool.{le-leb, and_parts}
use Rattle.vlq_mappings.specs.declared.Segment.{Segment}
use Rattle.vlq_mappings.specs.declared.VlqFault.{VlqFault}
use Rattle.vlq_mappings.specs.Kept.{most, is_near as segment_is_near}
use Rattle.source_maps.specs.declared.map.MapSegment.{MapSegment}
use Rattle.source_maps.specs.declared.fault.MapFault.{MapFault}
use Rattle.source_maps.specs.Kept.{is_near, is_below}
use Rattle.source_maps.specs.Maps.{located, on_line, all_below, first_past, spelt}

-- ---- the first that passes

pub found_first : {A : Type 0} (p : A → Bool) (xs : List A) (k : ℕ) (d : A) → k < length xs → p (get_or xs k d) ≡ true
    → position_from p k (drop k xs) ≡ position_from p 0 xs → Some k ≡ position p xs
found_first p xs k d below here so_far =
    let front = drop-cons xs k d below in
    sym (position_from-zero p xs ∙ sym so_far ∙ ap (position_from p k) front ∙ ap (λ t. cond t (Some k) (position_from p (k + 1) (drop (suc k) xs))) here)

pub found_no : {A : Type 0} (p : A → Bool) (xs : List A) (k : ℕ) → length xs ≤ k → position_from p k (drop k xs) ≡ position_from p 0 xs → None ≡ position p xs
found_no p xs k past so_far = sym (position_from-zero p xs ∙ sym so_far ∙ ap (position_from p k) (drop_all k xs past))

some_none : {A : Type 0} {B : Type 0} (x : A) → Some x ≡ None → B
some_none x e = cc

none_from : {A : Type 0} (q : A → Bool) (k : ℕ) (xs : List A) → position_from (λ x. not (q x)) k xs ≡ None → list_all q xs ≡ true
none_from q k [] e = refl
none_from q k (x ∷ xs) e =
    elim (q x) as (λ t. cond (not t) (Some k) (position_from (λ y. not (q y)) (k + 1) xs) ≡ None → (t && list_all q xs) ≡ true) [
      | true ↦ λ h. none_from q (k + 1) xs h
      | false ↦ λ h. some_none k h
    ] e

pub none_past : (sources names : ℕ) (segments : List MapSegment) → first_past sources names segments ≡ None → list_all (is_below sources names) segments ≡ true
none_past sources names segments e = none_from (is_below sources names) 0 segments (sym (position_from-zero (λ s. not (is_below sources names s)) segments) ∙ e)

-- ---- what a list that passes the test of sources and names has

if_all : (P : List MapSegment → Type 0) (segments : List MapSegment) (sources names : ℕ) (o : Option ℕ) → (o ≡ None → P segments) → IfOk (all_below sources names segments o) P
if_all P segments sources names None h = h refl
if_all P segments sources names (Some k) h = tt

pub if_below : (P : List MapSegment → Type 0) (segments : List MapSegment) (sources names : ℕ) (r : Result (List MapSegment) MapFault)
    → r ≡ all_below sources names segments (first_past sources names segments) → (first_past sources names segments ≡ None → P segments) → IfOk r P
if_below P segments sources names r is h = subst (λ t. IfOk t P) (sym is) (if_all P segments sources names (first_past sources names segments) h)

-- ---- numbers

near_line : (line : ℕ) (segments : List Segment) → line ≤ most → list_all segment_is_near segments ≡ true → list_all is_near (map (on_line line) segments) ≡ true
near_line line [] le all = refl
near_line line (s ∷ segments) le all =
    let here = le-leb line most le in
    let rest = near_line line segments le in
    elim (segment_is_near s) as (λ t. (t && list_all segment_is_near segments) ≡ true → ((nat_le line most && t) && list_all is_near (map (on_line line) segments)) ≡ true) [
      | true ↦ λ h. (λ i. (here i && true) && list_all is_near (map (on_line line) segments)) ∙ rest h
      | false ↦ λ h. cc
    ] all

pub near_located : (k : ℕ) (lines : List (List Segment)) → k + length lines ≤ suc most → list_all (list_all segment_is_near) lines ≡ true → list_all is_near (located k lines) ≡ true
near_located k [] le all = refl
near_located k (segments ∷ lines) le all =
    let parts = and_parts (list_all segment_is_near segments) (list_all (list_all segment_is_near) lines) all in
    let here = near_line k segments (omega arith) parts.0 in
    let rest = near_located (suc k) lines (omega arith) parts.1 in
    list_all-append is_near (map (on_line k) segments) (located (suc k) lines) ∙ (λ i. here i && list_all is_near (located (suc k) lines)) ∙ rest

-- ---- lines that are spelt

ok_same : {A E : Type 0} (x y : A) → ◌≡◌ {A = Result A E} (Ok x) (Ok y) → x ≡ y
ok_same x y e = cc

pub spelt-ok : (section : Option ℕ) (r : Result (List (List Segment)) VlqFault) (lines : List (List Segment)) → spelt section r ≡ Ok lines → r ≡ Ok lines
spelt-ok section (Ok found) lines e = ap (λ x. Ok x) (ok_same found lines e)
spelt-ok section (Err fault) lines e = cc

-- ---- missing contents

pub one_missing : {A : Type 0} (xs ys : List A) (n : ℕ) (x : A) (all : List A) → ys ≡ xs ++ x ∷ [] → length xs < n → xs ++ replicate (n - length xs) x ≡ all
    → ys ++ replicate (n - length ys) x ≡ all
one_missing xs ys n x all grown lt so_far =
    let size : length ys ≡ suc (length xs) = ap length grown ∙ length-append xs (x ∷ []) ∙ add-one (length xs) in
    let left : n - length xs ≡ suc (n - length ys) = omega arith in
    ap (λ l. l ++ replicate (n - length ys) x) grown ∙ append_assoc xs (x ∷ []) (replicate (n - length ys) x) ∙ sym (ap (λ m. xs ++ replicate m x) left) ∙ so_far
