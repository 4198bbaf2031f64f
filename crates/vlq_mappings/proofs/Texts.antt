-- Texts in a row, with a byte between each two.
use Rattle.std.proofs.Common.{◌≡◌, ℕ, ◌-◌, ◌<◌, ◌≤◌, List, [], ◌∷◌, ◌++◌, length, take, drop, get_or, sym, ap, ◌∙◌, arith, append_assoc}
use Rattle.std.specs.List.{join_with_byte}
use Rattle.std.proofs.lemmas.List.{append-nil, take_rest}
use Rattle.vlq_mappings.specs.declared.Segment.{Segment}
use Rattle.vlq_mappings.specs.declared.last.Last.{Last}
use Rattle.vlq_mappings.specs.Mappings.{start, next_line}
use Rattle.vlq_mappings.specs.Grammar.{behind, behind_line}
use Rattle.vlq_mappings.specs.Written.{segment_text, segment_texts, line_texts, preceded, written}

pub joined : (c : ℕ) (text : List ℕ) (texts : List (List ℕ)) → join_with_byte c (text ∷ texts) ≡ text ++ preceded c texts
joined c text [] = sym (append-nil text)
joined c text (next ∷ texts) = ap (λ t. text ++ (c ∷ t)) (joined c next texts)

pub whole_line : (old mid new : List ℕ) (last after : Last) (line : List Segment) (d : Segment) → 1 ≤ length line
    → mid ≡ old ++ segment_text last (get_or line 0 d) → after ≡ behind last (get_or line 0 d)
    → new ≡ mid ++ preceded 44 (segment_texts after (take (length line - 1) (drop 1 line)))
    → new ≡ old ++ join_with_byte 44 (segment_texts last line)
whole_line old mid new last after [] d some first then rest = absurd (omega arith)
whole_line old mid new last after (s ∷ segments) d some first then rest =
    rest
    ∙ (λ i. first i ++ preceded 44 (segment_texts (then i) (take_rest (s ∷ segments) 1 i)))
    ∙ append_assoc old (segment_text last s) (preceded 44 (segment_texts (behind last s) segments))
    ∙ ap (λ t. old ++ t) (sym (joined 44 (segment_text last s) (segment_texts (behind last s) segments)))

pub no_lines : (old : List ℕ) (lines : List (List Segment)) → length lines < 1 → old ≡ old ++ written lines
unfolding written
no_lines old [] none = sym (append-nil old)
no_lines old (line ∷ lines) none = absurd (omega arith)

pub all_lines : (old mid new : List ℕ) (after : Last) (lines : List (List Segment)) (first d : List Segment) → 1 ≤ length lines → first ≡ get_or lines 0 d
    → mid ≡ old ++ join_with_byte 44 (segment_texts start first) → after ≡ behind_line start first
    → new ≡ mid ++ preceded 59 (line_texts (next_line after) (take (length lines - 1) (drop 1 lines)))
    → new ≡ old ++ written lines
unfolding written
all_lines old mid new after [] first d some is one then rest = absurd (omega arith)
all_lines old mid new after (line ∷ lines) first d some is one then rest =
    let text = join_with_byte 44 (segment_texts start line) in
    let one' : mid ≡ old ++ text = one ∙ ap (λ l. old ++ join_with_byte 44 (segment_texts start l)) is in
    let then' : after ≡ behind_line start line = then ∙ ap (behind_line start) is in
    rest
    ∙ (λ i. one' i ++ preceded 59 (line_texts (next_line (then' i)) (take_rest (line ∷ lines) 1 i)))
    ∙ append_assoc old text (preceded 59 (line_texts (next_line (behind_line start line)) lines))
    ∙ ap (λ t. old ++ t) (sym (joined 59 text (line_texts (next_line (behind_line start line)) lines)))
