-- How many lines and segments a text of mappings has.
use Rattle.std.proofs.Common.{◌≡◌, ℕ, suc, ◌+◌, ◌<◌, ◌≤◌, Bool, true, false, cond, List, [], ◌∷◌, ◌++◌, length, refl, sym, ap, ◌∙◌, arith, length-append, subst}
use Rattle.std.specs.Prelude.{Ok, map}
use Rattle.std.specs.List.{slice_split, onto_first}
use Rattle.std.proofs.lemmas.List.Splits.{length-slice_split}
use Rattle.std.proofs.lemmas.List.Sums.{count_by-le-length}
use Rattle.vlq_mappings.specs.declared.Segment.{Segment}
use Rattle.vlq_mappings.specs.Mappings.{mappings, segment_at, segments_at, lines_at, with_segment, with_line, is_comma, is_semicolon, next_line, start}
use Rattle.vlq_mappings.specs.Faults.{◌>>=◌}
use Rattle.vlq_mappings.proofs.Binds.{bound, ok_same}
use Rattle.source_maps.specs.Maps.{located, on_line}

-- no more segments than pieces
segments_few : (place : ℕ) (last : _) (pieces : List (List ℕ)) (x : List Segment × _) → segments_at place last pieces ≡ Ok x → length x.0 ≤ length pieces
segments_few place last [] x e =
    let same : ([], last) ≡ x = ok_same ([], last) x e in
    let none : 0 ≡ length x.0 = ap (λ (y : List Segment × _). length y.0) same in
    omega arith
segments_few place last ([] ∷ pieces) x e = let rest = segments_few (place + 1) last pieces x e in omega arith
segments_few place last ((b ∷ bs) ∷ pieces) x e =
    let one = bound (segment_at place last (b ∷ bs)) (λ (s : Segment × _). segments_at (place + length (b ∷ bs) + 1) s.1 pieces >>= with_segment s.0) x e in
    let two = bound (segments_at (place + length (b ∷ bs) + 1) one.value.1 pieces) (with_segment one.value.0) x one.then in
    let same : (one.value.0 ∷ two.value.0, two.value.1) ≡ x = ok_same (one.value.0 ∷ two.value.0, two.value.1) x two.then in
    let count : suc (length two.value.0) ≡ length x.0 = ap (λ (y : List Segment × _). length y.0) same in
    let rest = segments_few (place + length (b ∷ bs) + 1) one.value.1 pieces two.value two.first in
    omega arith

-- the bytes of texts, and one behind each
abbrev bytes_of : List (List ℕ) → ℕ
bytes_of [] = 0
bytes_of (text ∷ texts) = suc (length text) + bytes_of texts

bytes-onto : (b : ℕ) (texts : List (List ℕ)) → 0 < length texts → bytes_of (onto_first b texts) ≡ suc (bytes_of texts)
bytes-onto b [] some = absurd (omega arith)
bytes-onto b (text ∷ texts) some = omega arith

bytes-split : (p : ℕ → Bool) (text : List ℕ) → bytes_of (slice_split p text) ≡ length text + 1
bytes-split p [] = refl
bytes-split p (b ∷ text) =
    let rest = bytes-split p text in
    let some : 0 < length (slice_split p text) = omega (arith, length-slice_split p text) in
    let onto = bytes-onto b (slice_split p text) some in
    elim (p b) as (λ t. bytes_of (cond t ([] ∷ slice_split p text) (onto_first b (slice_split p text))) ≡ suc (length text) + 1) [
      | true ↦ omega arith
      | false ↦ omega arith
    ]

length-map : {A B : Type 0} (f : A → B) (xs : List A) → length (map f xs) ≡ length xs
length-map f [] = refl
length-map f (x ∷ xs) = ap suc (length-map f xs)

-- as many lines as texts, and no more segments than bytes
pub record Few (texts : List (List ℕ)) (k : ℕ) (lines : List (List Segment)) : Type 0 where
  pub lines_few : length lines ≡ length texts
  pub segments : length (located k lines) ≤ bytes_of texts

lines_few : (place : ℕ) (last : _) (texts : List (List ℕ)) (k : ℕ) (lines : List (List Segment)) → lines_at place last texts ≡ Ok lines → Few texts k lines
lines_few place last [] k lines e =
    let same : [] ≡ lines = ok_same [] lines e in
    record { lines_few = ap length (sym same); segments = subst (λ ls. length (located k ls) ≤ 0) same (omega arith) }
lines_few place last (text ∷ texts) k lines e =
    let one = bound (segments_at place last (slice_split is_comma text)) (λ (s : List Segment × _). lines_at (place + length text + 1) (next_line s.1) texts >>= with_line s.0) lines e in
    let two = bound (lines_at (place + length text + 1) (next_line one.value.1) texts) (with_line one.value.0) lines one.then in
    let same : one.value.0 ∷ two.value ≡ lines = ok_same (one.value.0 ∷ two.value) lines two.then in
    let rest = lines_few (place + length text + 1) (next_line one.value.1) texts (suc k) two.value two.first in
    let here = segments_few place last (slice_split is_comma text) one.value one.first in
    let a = rest.lines_few in
    let b = rest.segments in
    let size : length (map (on_line k) one.value.0 ++ located (suc k) two.value) ≡ length one.value.0 + length (located (suc k) two.value) =
    length-append (map (on_line k) one.value.0) (located (suc k) two.value) ∙ ap (λ n. n + length (located (suc k) two.value)) (length-map (on_line k) one.value.0)
    in
    let pieces = length-slice_split is_comma text in
    let commas = count_by-le-length is_comma text in
    record {
      lines_few = ap length (sym same) ∙ ap suc a;
      segments = subst (λ ls. length (located k ls) ≤ suc (length text) + bytes_of texts) same (omega arith);
    }

-- a text has no more lines, and no more segments, than bytes and one
pub few_lines : (text : List ℕ) (lines : List (List Segment)) → mappings text ≡ Ok lines → length lines ≤ length text + 1
unfolding mappings
few_lines text lines e =
    let few = lines_few 0 start (slice_split is_semicolon text) 0 lines e in
    let a = few.lines_few in
    let b = length-slice_split is_semicolon text in
    let c = count_by-le-length is_semicolon text in
    omega arith

pub few_segments : (text : List ℕ) (lines : List (List Segment)) → mappings text ≡ Ok lines → length (located 0 lines) ≤ length text + 1
unfolding mappings
few_segments text lines e =
    let few = lines_few 0 start (slice_split is_semicolon text) 0 lines e in
    let a = few.segments in
    let b = bytes-split is_semicolon text in
    omega arith
