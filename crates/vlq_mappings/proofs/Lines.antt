-- The segments of a line, piece by piece, and the lines of a text.
use Rattle.std.proofs.Common.{◌≡◌, ℕ, ◌+◌, ◌<◌, ◌≤◌, zero, suc, Bool, true, false, cond, List, [], ◌∷◌, ◌++◌, length, drop, get_or, refl, sym, ap, ◌∙◌, inl, inr, arith, append_assoc}
use Rattle.std.specs.Prelude.{Result, Ok, Err}
use Rattle.std.specs.List.{slice_split, onto_first}
use Rattle.std.proofs.lemmas.Bool.{cases_lt}
use Rattle.std.proofs.lemmas.List.{drop_more, drop_all, drop-drop, append-nil, length-drop}
use Rattle.vlq_mappings.specs.declared.Segment.{Segment}
use Rattle.vlq_mappings.specs.declared.VlqFault.{VlqFault}
use Rattle.vlq_mappings.specs.declared.VlqFault.TheVariants.{At, NoMemory}
use Rattle.vlq_mappings.specs.Gives.{Fails}
use Rattle.vlq_mappings.specs.declared.last.Last.{Last}
use Rattle.vlq_mappings.specs.Faults.{◌>>=◌, goes_on}
use Rattle.vlq_mappings.specs.Mappings.{is_comma, is_semicolon, next_line, segment_at, segments_at, with_segment, lines_at, with_line, mappings, start}
use Rattle.vlq_mappings.specs.Pieces.{upto, piece_at, line_at, is_end, line_segments, with_front, lines_behind, with_lines}

-- ---- a list cut at the elements that pass a test

-- the parts behind the first, from the element on at which it ends
abbrev pub later : (ℕ → Bool) → List ℕ → List (List ℕ)
later p [] = []
later p (b ∷ bs) = slice_split p bs

first_part : (p : ℕ → Bool) (xs : List ℕ) → slice_split p xs ≡ upto p xs ∷ later p (drop (length (upto p xs)) xs)
first_part p [] = refl
first_part p (b ∷ bs) =
    elim (p b) as (λ t. cond t ([] ∷ slice_split p bs) (onto_first b (slice_split p bs)) ≡ cond t [] (b ∷ upto p bs) ∷ later p (drop (length (cond t [] (b ∷ upto p bs))) (b ∷ bs))) [
      | true ↦ refl
      | false ↦ ap (onto_first b) (first_part p bs)
    ]

pub drop-upto : (p : ℕ → Bool) (k : ℕ) (xs : List ℕ) → k ≤ length (upto p xs) → drop k (upto p xs) ≡ upto p (drop k xs)
drop-upto p zero xs h = refl
drop-upto p (suc k) [] h = refl
drop-upto p (suc k) (b ∷ bs) h =
    (elim (p b) as (λ t. suc k ≤ length (cond t [] (b ∷ upto p bs)) → drop (suc k) (cond t [] (b ∷ upto p bs)) ≡ upto p (drop k bs)) [
      | true ↦ λ h. absurd (omega arith)
      | false ↦ λ h. drop-upto p k bs (omega arith)
    ]) h

abbrev Ends : (ℕ → Bool) → List ℕ → Type 0
Ends p [] = Unit {0}
Ends p (b ∷ bs) = p b ≡ true

upto_ends : (p : ℕ → Bool) (xs : List ℕ) → Ends p (drop (length (upto p xs)) xs)
upto_ends p [] = tt
upto_ends p (b ∷ bs) =
    (elim (p b) as (λ t. p b ≡ t → Ends p (drop (length (cond t [] (b ∷ upto p bs))) (b ∷ bs))) [
      | true ↦ λ e. e
      | false ↦ λ e. upto_ends p bs
    ]) refl

-- ---- the pieces of a line

abbrev pieces : ℕ → Last → List ℕ → Result (List Segment × Last) VlqFault
pieces at last line = segments_at at last (slice_split is_comma line)

-- behind the end of a piece
behind_piece : (at : ℕ) (last : Last) (rest : List ℕ) → Ends is_comma rest → segments_at (at + 1) last (later is_comma rest) ≡ pieces at last rest
behind_piece at last [] e = refl
behind_piece at last (b ∷ bs) e = sym (ap (λ t. segments_at at last (cond t ([] ∷ slice_split is_comma bs) (onto_first b (slice_split is_comma bs)))) e)

some_piece : (at : ℕ) (last : Last) (piece : List ℕ) (others : List (List ℕ)) → is_end piece ≡ false
    → segments_at at last (piece ∷ others) ≡ (segment_at at last piece >>= λ s. segments_at (at + length piece + 1) s.1 others >>= with_segment s.0)
some_piece at last [] others e = cc
some_piece at last (b ∷ bs) others e = refl

piece_first : (at : ℕ) (last : Last) (line : List ℕ) → is_end (upto is_comma line) ≡ false
    → pieces at last line ≡ (segment_at at last (upto is_comma line) >>= λ s. pieces (at + length (upto is_comma line)) s.1 (drop (length (upto is_comma line)) line) >>= with_segment s.0)
piece_first at last line some =
    let piece = upto is_comma line in
    let rest = drop (length piece) line in
    ap (segments_at at last) (first_part is_comma line)
    ∙ some_piece at last piece (later is_comma rest) some
    ∙ (λ i. segment_at at last piece >>= λ s. behind_piece (at + length piece) s.1 rest (upto_ends is_comma line) i >>= with_segment s.0)

-- ---- a line of a text, byte by byte

line-cons : (b : ℕ) (bs : List ℕ) → is_end (upto is_semicolon (b ∷ bs)) ≡ false → upto is_semicolon (b ∷ bs) ≡ b ∷ upto is_semicolon bs
line-cons b bs =
    elim (is_semicolon b) as (λ t. is_end (cond t [] (b ∷ upto is_semicolon bs)) ≡ false → cond t [] (b ∷ upto is_semicolon bs) ≡ b ∷ upto is_semicolon bs) [
      | true ↦ λ e. cc
      | false ↦ λ e. refl
    ]

pub within_line : (text : List ℕ) (at : ℕ) → is_end (line_at text at) ≡ false → at < length text
within_line text at some =
    elim (cases_lt at (length text)) [
      | inl lt ↦ lt
      | inr le ↦
          let e : is_end (upto is_semicolon (drop at text)) ≡ true = rw (drop_all at text le) refl in
          absurd (cc)
    ]

pub line_more : (text : List ℕ) (at : ℕ) → is_end (line_at text at) ≡ false → line_at text at ≡ get_or text at 0 ∷ line_at text (at + 1)
line_more text at some =
    let e : drop at text ≡ get_or text at 0 ∷ drop (at + 1) text = drop_more text at 0 (within_line text at some) in
    ap (upto is_semicolon) e ∙ line-cons (get_or text at 0) (drop (at + 1) text) (ap (λ t. is_end (upto is_semicolon t)) (sym e) ∙ some)

-- where neither a line nor a `,` ends it, a piece goes on
pub piece_here : (text : List ℕ) (at : ℕ) → is_end (line_at text at) ≡ false → is_comma (get_or text at 0) ≡ false → is_end (piece_at text at) ≡ false
piece_here text at some other =
    ap (λ t. is_end (upto is_comma t)) (line_more text at some)
    ∙ ap (λ t. is_end (cond t [] (get_or text at 0 ∷ upto is_comma (line_at text (at + 1))))) other

pub comma_here : (text : List ℕ) (at : ℕ) (last : Last) → is_end (line_at text at) ≡ false → is_comma (get_or text at 0) ≡ true
    → line_segments text at last ≡ line_segments text (at + 1) last
comma_here text at last some comma =
    ap (pieces at last) (line_more text at some)
    ∙ ap (λ t. segments_at at last (cond t ([] ∷ slice_split is_comma (line_at text (at + 1))) (onto_first (get_or text at 0) (slice_split is_comma (line_at text (at + 1)))))) comma

length-upto : (p : ℕ → Bool) (xs : List ℕ) → length (upto p xs) ≤ length xs
length-upto p [] = omega arith
length-upto p (b ∷ bs) =
    elim (p b) as (λ t. length (cond t [] (b ∷ upto p bs)) ≤ suc (length bs)) [
      | true ↦ omega arith
      | false ↦ let h = length-upto p bs in omega arith
    ]

-- what is left of the line behind its first piece
rest_of_line : (text : List ℕ) (at : ℕ) → drop (length (piece_at text at)) (line_at text at) ≡ line_at text (at + length (piece_at text at))
rest_of_line text at =
    drop-upto is_semicolon (length (piece_at text at)) (drop at text) (length-upto is_comma (line_at text at))
    ∙ ap (upto is_semicolon) (drop-drop (length (piece_at text at)) at text)

pub length-rest_of_line : (text : List ℕ) (at : ℕ)
    → at + length (piece_at text at) + length (line_at text (at + length (piece_at text at))) ≡ at + length (line_at text at)
length-rest_of_line text at =
    let e = ap length (rest_of_line text at) in
    let h = length-upto is_comma (line_at text at) in
    omega (arith, length-drop (length (piece_at text at)) (line_at text at), e, h)

pub segment_here : (text : List ℕ) (at : ℕ) (last : Last) → is_end (piece_at text at) ≡ false
    → line_segments text at last ≡ (segment_at at last (piece_at text at) >>= λ s. line_segments text (at + length (piece_at text at)) s.1 >>= with_segment s.0)
segment_here text at last some =
    piece_first at last (line_at text at) some
    ∙ (λ i. segment_at at last (piece_at text at) >>= λ s. pieces (at + length (piece_at text at)) s.1 (rest_of_line text at i) >>= with_segment s.0)

pub segment_fault : (text : List ℕ) (at : ℕ) (last : Last) (e : VlqFault) → is_end (piece_at text at) ≡ false → segment_at at last (piece_at text at) ≡ Err e
    → line_segments text at last ≡ Err e
segment_fault text at last e some h =
    segment_here text at last some
    ∙ ap (λ r. r >>= λ s. line_segments text (at + length (piece_at text at)) s.1 >>= with_segment s.0) h

pub segment_read : (text : List ℕ) (at : ℕ) (last : Last) (s : Segment) (behind : Last) → is_end (piece_at text at) ≡ false
    → segment_at at last (piece_at text at) ≡ Ok (s, behind)
    → line_segments text at last ≡ goes_on (line_segments text (at + length (piece_at text at)) behind) (with_segment s)
segment_read text at last s behind some h =
    segment_here text at last some
    ∙ ap (λ r. r >>= λ s. line_segments text (at + length (piece_at text at)) s.1 >>= with_segment s.0) h

nothing : (at : ℕ) (last : Last) (line : List ℕ) → is_end line ≡ true → pieces at last line ≡ Ok ([], last)
nothing at last [] e = refl
nothing at last (b ∷ bs) e = cc

pub line_over : (text : List ℕ) (at : ℕ) (last : Last) → is_end (line_at text at) ≡ true → line_segments text at last ≡ Ok ([], last)
line_over text at last over = nothing at last (line_at text at) over

-- ---- segments before others

pub front_more : (r : Result (List Segment × Last) VlqFault) (front : List Segment) (s : Segment)
    → goes_on (goes_on r (with_segment s)) (with_front front) ≡ goes_on r (with_front (front ++ s ∷ []))
front_more (Err e) front s = refl
front_more (Ok x) front s = ap (λ xs. Ok (xs, x.1)) (sym (append_assoc front (s ∷ []) x.0))

pub no_front : (r : Result (List Segment × Last) VlqFault) → goes_on r (with_front []) ≡ r
no_front (Err e) = refl
no_front (Ok x) = refl

pub front_all : (front : List Segment) (last : Last) → with_front front ([], last) ≡ Ok (front, last)
front_all front last = ap (λ xs. Ok (xs, last)) (append-nil front)

-- ---- lines

behind_line : (at : ℕ) (last : Last) (rest : List ℕ) → lines_at (at + 1) (next_line last) (later is_semicolon rest) ≡ lines_behind at last rest
behind_line at last [] = refl
behind_line at last (b ∷ bs) = refl

pub line_first : (text : List ℕ) (at : ℕ) (last : Last)
    → lines_at at last (slice_split is_semicolon (drop at text))
    ≡ (line_segments text at last >>= λ s. lines_behind (at + length (line_at text at)) s.1 (drop (at + length (line_at text at)) text) >>= with_line s.0)
line_first text at last =
    let line = line_at text at in
    ap (lines_at at last) (first_part is_semicolon (drop at text))
    ∙ (λ i. line_segments text at last >>= λ s. behind_line (at + length line) s.1 (drop-drop (length line) at text i) i >>= with_line s.0)

-- ---- what a refusal says

pub fails_with : {A : Type 0} (e : VlqFault) (given : Result A VlqFault) → given ≡ Err e → Fails e given
fails_with (At place cause) given h = h
fails_with NoMemory given h = tt

-- ---- the lines of a text, one after another

pub lines_start : (text : List ℕ) (line : List Segment) (last : Last) (end : ℕ) → line_segments text 0 start ≡ Ok (line, last) → end ≡ 0 + length (line_at text 0)
    → mappings text ≡ goes_on (lines_behind end last (drop end text)) (with_line line)
unfolding mappings
lines_start text line last end h e =
    rw e
    (line_first text 0 start
    ∙ ap (λ r. r >>= λ s. lines_behind (0 + length (line_at text 0)) s.1 (drop (0 + length (line_at text 0)) text) >>= with_line s.0) h)

pub start_fault : (text : List ℕ) (e : VlqFault) → line_segments text 0 start ≡ Err e → mappings text ≡ Err e
unfolding mappings
start_fault text e h =
    line_first text 0 start
    ∙ ap (λ r. r >>= λ s. lines_behind (0 + length (line_at text 0)) s.1 (drop (0 + length (line_at text 0)) text) >>= with_line s.0) h

next_first : (text : List ℕ) (at : ℕ) (last : Last) → at < length text
    → lines_behind at last (drop at text) ≡ lines_at (at + 1) (next_line last) (slice_split is_semicolon (drop (at + 1) text))
next_first text at last lt = ap (lines_behind at last) (drop_more text at 0 lt)

pub next_read : (text : List ℕ) (at : ℕ) (last : Last) (line : List Segment) (behind : Last) (end : ℕ) → at < length text
    → line_segments text (at + 1) (next_line last) ≡ Ok (line, behind) → end ≡ at + 1 + length (line_at text (at + 1))
    → lines_behind at last (drop at text) ≡ goes_on (lines_behind end behind (drop end text)) (with_line line)
next_read text at last line behind end lt h e =
    rw e
    (next_first text at last lt ∙ line_first text (at + 1) (next_line last)
    ∙ ap (λ r. r >>= λ s. lines_behind (at + 1 + length (line_at text (at + 1))) s.1 (drop (at + 1 + length (line_at text (at + 1))) text) >>= with_line s.0) h)

pub next_fault : (text : List ℕ) (at : ℕ) (last : Last) (e : VlqFault) → at < length text
    → line_segments text (at + 1) (next_line last) ≡ Err e → lines_behind at last (drop at text) ≡ Err e
next_fault text at last e lt h =
    next_first text at last lt ∙ line_first text (at + 1) (next_line last)
    ∙ ap (λ r. r >>= λ s. lines_behind (at + 1 + length (line_at text (at + 1))) s.1 (drop (at + 1 + length (line_at text (at + 1))) text) >>= with_line s.0) h

pub lines_over : (text : List ℕ) (at : ℕ) (last : Last) (lines : List (List Segment)) → length text ≤ at
    → goes_on (lines_behind at last (drop at text)) (with_lines lines) ≡ Ok lines
lines_over text at last lines le =
    ap (λ t. goes_on (lines_behind at last t) (with_lines lines)) (drop_all at text le) ∙ ap (λ xs. Ok xs) (append-nil lines)

pub lines_more : (r : Result (List (List Segment)) VlqFault) (front : List (List Segment)) (line : List Segment)
    → goes_on (goes_on r (with_line line)) (with_lines front) ≡ goes_on r (with_lines (front ++ line ∷ []))
lines_more (Err e) front line = refl
lines_more (Ok xs) front line = ap (λ ys. Ok ys) (sym (append_assoc front (line ∷ []) xs))

pub fails_on : {A B : Type 0} (e : VlqFault) (r : Result A VlqFault) (s : Result B VlqFault) → ((d : VlqFault) → r ≡ Err d → s ≡ Err d) → Fails e r → Fails e s
fails_on (At place cause) r s h f = h (At place cause) f
fails_on NoMemory r s h f = tt
