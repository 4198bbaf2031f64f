-- Offsets in order, and the counts there.
use Rattle.std.proofs.Common.{◌≡◌, ℕ, zero, suc, ◌+◌, ◌<◌, ◌≤◌, true, false, List, [], ◌∷◌, ◌++◌, length, get_or, drop, refl, sym, ap, ◌∙◌, subst, arith, append_assoc, inl, inr}
use Rattle.std.specs.Prelude.{map, flat_map, filter, nat_lt, nat_le, ◌&&◌}
use Rattle.std.specs.List.{All, Contains}
use Rattle.std.specs.List.Sorted.{IsNonDecreasing, IsPartitionPoint, IsPermutation}
use Rattle.std.proofs.lemmas.Bool.{cases_lt, lt-ltb, le-ltb, le-leb, lt-leb, ltb-true, ltb-false}
use Rattle.std.proofs.lemmas.List.{get_or_default, get_or-map, length-map, append-nil, drop_all}
use Rattle.std.proofs.lemmas.List.Elements.{All-filter, All-map, Contains-append_left, Contains-append_right, Contains-get_or}
use Rattle.std.proofs.lemmas.List.Sorted.{Contains-permutation}
use Rattle.cov_model.specs.Nesting.{has_offset}
use Rattle.cov_model.specs.declared.report.Range.{Range}
use Rattle.cov_text.specs.Listing.{counted, last_or}
use Rattle.source_remap.specs.declared.lines.Landing.{Landing}
use Rattle.source_remap.specs.Columns.{leftmost_on}
use Rattle.source_remap.specs.Groups.{of_source}
use Rattle.istanbul_rules.proofs.Lists.{rest_from}
use Rattle.istanbul_rules.specs.Painting.{covers, count_over, stretch_at}
use Rattle.istanbul_rules.specs.Parts.{count_at}

-- ---- where an offset first stands

-- those before i are less than the offset, and the others aren't
abbrev pub Parts : ℕ → List ℕ → ℕ → Type 0
Parts o xs i = IsPartitionPoint (λ x. nat_lt x o ≡ true) (λ x. nat_lt x o ≡ false) xs i

first_place : (xs : List ℕ) (o i : ℕ) → Parts o xs i → (there : Contains xs o) → i ≤ there.0
first_place xs o i parts there =
    elim (cases_lt there.0 i) [
      | inl lt ↦
          let less = ltb-true (get_or xs there.0 o) o (parts.0 there.0 o (omega arith) lt) in
          let same : get_or xs there.0 o ≡ o = there.2 in
          absurd (omega arith)
      | inr le ↦ le
    ]

pub first_below : (xs : List ℕ) (o i : ℕ) → Parts o xs i → Contains xs o → i < length xs
first_below xs o i parts there = let le = first_place xs o i parts there in let lt : there.0 < length xs = there.1 in omega arith

pub first_is : (xs : List ℕ) (o i : ℕ) → IsNonDecreasing xs → Parts o xs i → Contains xs o → (d : ℕ) → get_or xs i d ≡ o
first_is xs o i sorted parts there d =
    let le = first_place xs o i parts there in
    let lt : there.0 < length xs = there.1 in
    let upper : get_or xs i d ≤ get_or xs there.0 d = sorted i there.0 d le lt in
    let same : get_or xs there.0 d ≡ o = get_or_default xs there.0 d o lt ∙ there.2 in
    let lower = ltb-false (get_or xs i d) o (parts.1 i d (omega arith) (omega arith)) in
    omega arith

-- ---- all offsets

-- of all landings
abbrev pub all_offsets : List (List Landing) → List ℕ
all_offsets lists = flat_map (map (λ (l : Landing). l.offset)) lists

pub offsets-more : (lists : List (List Landing)) (i : ℕ) (d : List Landing) (before after all : List ℕ) → i < length lists → after ≡ before ++ map (λ (l : Landing). l.offset) (get_or lists i d)
    → before ++ all_offsets (drop i lists) ≡ all → after ++ all_offsets (drop (i + 1) lists) ≡ all
offsets-more lists i d before after all lt grown so_far =
    ap (λ xs. xs ++ all_offsets (drop (i + 1) lists)) grown
    ∙ append_assoc before (map (λ (l : Landing). l.offset) (get_or lists i d)) (all_offsets (drop (i + 1) lists))
    ∙ ap (λ rest. before ++ all_offsets rest) (sym (rest_from lists i d lt))
    ∙ so_far

all_in : (lists : List (List Landing)) (source : ℕ) → All (Contains (all_offsets lists)) (map (λ (l : Landing). l.offset) (of_source lists source))
all_in [] source = λ k d lt. absurd (omega arith)
all_in (list ∷ lists) zero =
    λ k d lt. Contains-append_left (map (λ (l : Landing). l.offset) list) (all_offsets lists) (get_or (map (λ (l : Landing). l.offset) list) k d)
    (Contains-get_or (map (λ (l : Landing). l.offset) list) k d lt)
all_in (list ∷ lists) (suc source) =
    λ k d lt. Contains-append_right (map (λ (l : Landing). l.offset) list) (all_offsets lists) (get_or (map (λ (l : Landing). l.offset) (of_source lists source)) k d)
    (all_in lists source k d lt)

pub all_found : (lists : List (List Landing)) (k : ℕ) (before sorted : List ℕ) → length lists ≤ k → before ++ all_offsets (drop k lists) ≡ all_offsets lists → IsPermutation before sorted
    → (source : ℕ) → All (Contains sorted) (map (λ (l : Landing). l.offset) (of_source lists source))
all_found lists k before sorted done so_far moved source i d lt =
    let x = get_or (map (λ (l : Landing). l.offset) (of_source lists source)) i d in
    let all : all_offsets lists ≡ before = sym so_far ∙ ap (λ rest. before ++ all_offsets rest) (drop_all k lists done) ∙ append-nil before in
    Contains-permutation before sorted x moved (subst (λ xs. Contains xs x) all (all_in lists source i d lt))

-- those of the leftmost of a line are of those of all
pub leftmost_within : (offsets : List ℕ) (ls : List Landing) (start n : ℕ) → All (Contains offsets) (map (λ (l : Landing). l.offset) ls)
    → All (All (Contains offsets)) (map (leftmost_on ls) (counted start n))
leftmost_within offsets ls start n within =
    All-map (All (Contains offsets)) (leftmost_on ls) (counted start n) (λ k d lt.
    All-map (Contains offsets) (λ (l : Landing). l.offset) _
    (All-filter _ (λ (l : Landing). Contains offsets l.offset) _ (All-filter _ (λ (l : Landing). Contains offsets l.offset) ls (unmapped offsets ls within))))
  where
    unmapped : (offsets : List ℕ) (ls : List Landing) → All (Contains offsets) (map (λ (l : Landing). l.offset) ls) → All (λ (l : Landing). Contains offsets l.offset) ls
    unmapped offsets ls within k d lt =
        let many = length-map ls (λ (l : Landing). l.offset) in
        subst (Contains offsets) (get_or-map (λ (l : Landing). l.offset) ls k d d.offset lt) (within k d.offset (omega arith))

-- ---- counts

unit_end : (o end : ℕ) → nat_le (o + 1) end ≡ nat_lt o end
unit_end o end =
    elim (cases_lt o end) [
      | inl lt ↦ le-leb (o + 1) end (omega arith) ∙ sym (lt-ltb o end lt)
      | inr le ↦ lt-leb (o + 1) end (omega arith) ∙ sym (le-ltb o end le)
    ]

count_at-over : (ranges : List Range) (o : ℕ) → count_over 1 ranges (stretch_at o) ≡ count_at ranges o
count_at-over ranges o =
    let same : covers (stretch_at o) ≡ has_offset o = (λ i r. nat_le r.start o && unit_end o r.end i) in
    ap (λ test. last_or 1 (map (λ (r : Range). r.count) (filter test ranges))) same

pub unit_counts : (ranges : List Range) (offsets : List ℕ) → map (count_over 1 ranges) (map stretch_at offsets) ≡ map (count_at ranges) offsets
unit_counts ranges [] = refl
unit_counts ranges (o ∷ offsets) = (λ i. count_at-over ranges o i ∷ unit_counts ranges offsets i)

-- what is found at an offset's place
pub found_count : (f : ℕ → ℕ) (offsets counts : List ℕ) (i o : ℕ) → counts ≡ map f offsets → i < length offsets → get_or offsets i 0 ≡ o → get_or counts i 0 ≡ f o
found_count f offsets counts i o is lt at = ap (λ cs. get_or cs i 0) is ∙ get_or-map f offsets i 0 0 lt ∙ ap f at
