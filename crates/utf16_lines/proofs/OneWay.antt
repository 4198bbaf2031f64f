-- Line ends make lines of a list of units in one way only.
use Rattle.std.proofs.Common.{◌≡◌, ◌≢◌, ℕ, ◌+◌, true, false, not, ◌&&◌, List, [], ◌∷◌, ◌++◌, length, refl, sym, ap, ap₂, ◌∙◌, subst, subst₂, inl, inr, append_assoc, append-nil, ◌⊎◌}
use Rattle.std.specs.Prelude.{Some, ◌==◌}
use Rattle.std.proofs.lemmas.List.{same_from_push}
use Rattle.std.proofs.lemmas.List.Folds.{list_all-append}
use Rattle.std.proofs.lemmas.Bool.{and_parts}
use Rattle.cov_text.specs.Listing.{last_of}
use Rattle.utf16_lines.specs.declared.Span.{Span}
use Rattle.utf16_lines.specs.Lines.{span}
use Rattle.utf16_lines.specs.Cutting.{has_no_lf, BeginsWith, AreLinesOf, OneWayToCut}
use Rattle.utf16_lines.proofs.Cut.{last_of-push}

head_is_lf : (y : ℕ) (m : List ℕ) → has_no_lf (y ∷ m) ≡ true → y ≡ 10 → ⊥
head_is_lf y m q e = let at_lf : false ≡ true = subst (λ n. (not (n == 10) && has_no_lf m) ≡ true) e q in cc

tail_has_none : (y : ℕ) (m : List ℕ) → has_no_lf (y ∷ m) ≡ true → has_no_lf m ≡ true
tail_has_none y m q = (and_parts (not (y == 10)) (has_no_lf m) q).1

-- the units before the first LF, and those behind it
lf_split : (l m r t : List ℕ) → has_no_lf l ≡ true → has_no_lf m ≡ true → l ++ 10 ∷ r ≡ m ++ 10 ∷ t → (l ≡ m) × (r ≡ t)
lf_split [] [] r t p q e = (refl, cc)
lf_split [] (y ∷ m) r t p q e = absurd (head_is_lf y m q (cc))
lf_split (x ∷ l) [] r t p q e = absurd (head_is_lf x l p (cc))
lf_split (x ∷ l) (y ∷ m) r t p q e =
    let heads : x ≡ y = cc in
    let rest : l ++ 10 ∷ r ≡ m ++ 10 ∷ t = cc in
    let h = lf_split l m r t (tail_has_none x l p) (tail_has_none y m q) rest in
    (ap₂ (λ n ns. n ∷ ns) heads h.0, h.1)

no_split : (l m r : List ℕ) → has_no_lf l ≡ true → l ≡ m ++ 10 ∷ r → ⊥
no_split [] [] r p e = cc
no_split [] (y ∷ m) r p e = cc
no_split (x ∷ l) [] r p e = head_is_lf x l p (cc)
no_split (x ∷ l) (y ∷ m) r p e = let rest : l ≡ m ++ 10 ∷ r = cc in no_split l m r (tail_has_none x l p) rest

-- a line and its end are what stands up to the first LF, or the whole of units without one
record UpToLf (line line_end rest us : List ℕ) : Type 0 where
  before : List ℕ
  whole : us ≡ before ++ 10 ∷ rest
  none : has_no_lf before ≡ true
  splits : ((before ≡ line ++ 13 ∷ []) × (line_end ≡ 13 ∷ 10 ∷ [])) ⊎ ((before ≡ line) × (line_end ≡ 10 ∷ []) × (last_of line ≢ Some 13))

record Whole (line line_end rest us : List ℕ) : Type 0 where
  whole : us ≡ line
  none : has_no_lf line ≡ true
  no_end : line_end ≡ []
  no_rest : rest ≡ []
  some : line ≢ []

form : (at : ℕ) (us : List ℕ) (s : Span) (b : BeginsWith at us s) → UpToLf b.line b.line_end b.rest us ⊎ Whole b.line b.line_end b.rest us
form at us s b =
    elim b.ends [
      | inl e ↦ inl (record {
        before = b.line ++ 13 ∷ [];
        whole = b.whole ∙ ap (λ l. b.line ++ (l ++ b.rest)) e ∙ sym (append_assoc b.line (13 ∷ []) (10 ∷ b.rest));
        none = list_all-append (λ n. not (n == 10)) b.line (13 ∷ []) ∙ ap (λ t. t && true) b.one;
        splits = inl (refl, e);
      })
      | inr more ↦
          elim more [
            | inl e ↦ inl (record { before = b.line; whole = b.whole ∙ ap (λ l. b.line ++ (l ++ b.rest)) e.0; none = b.one; splits = inr (refl, e.0, e.1) })
            | inr e ↦ inr (record {
              whole = b.whole ∙ ap₂ (λ l r. b.line ++ (l ++ r)) e.0 e.1 ∙ append-nil b.line;
              none = b.one;
              no_end = e.0;
              no_rest = e.1;
              some = e.2;
            })
          ]
    ]

abbrev Same : List ℕ → List ℕ → List ℕ → List ℕ → List ℕ → List ℕ → Type 0
Same line line_end rest other other_end other_rest = (line ≡ other) × (line_end ≡ other_end) × (rest ≡ other_rest)

same_up_to : (a b c d e f us : List ℕ) → UpToLf a b c us → UpToLf d e f us → Same a b c d e f
same_up_to a b c d e f us x y =
    let h = lf_split x.before y.before c f x.none y.none (sym x.whole ∙ y.whole) in
    elim x.splits [
      | inl p ↦
          elim y.splits [
            | inl q ↦ ((same_from_push a d 13 13 (sym p.0 ∙ h.0 ∙ q.0)).0, p.1 ∙ sym q.1, h.1)
            | inr q ↦ absurd (q.2 (ap last_of (sym (sym p.0 ∙ h.0 ∙ q.0)) ∙ last_of-push a 13))
          ]
      | inr p ↦
          elim y.splits [
            | inl q ↦ absurd (p.2 (ap last_of (sym p.0 ∙ h.0 ∙ q.0) ∙ last_of-push d 13))
            | inr q ↦ (sym p.0 ∙ h.0 ∙ q.0, p.1 ∙ sym q.1, h.1)
          ]
    ]

same_first : (at : ℕ) (us : List ℕ) (s t : Span) (b : BeginsWith at us s) (c : BeginsWith at us t) → Same b.line b.line_end b.rest c.line c.line_end c.rest
same_first at us s t b c =
    elim (form at us s b) [
      | inl x ↦
          elim (form at us t c) [
            | inl y ↦ same_up_to b.line b.line_end b.rest c.line c.line_end c.rest us x y
            | inr y ↦ absurd (no_split c.line x.before b.rest y.none (sym y.whole ∙ x.whole))
          ]
      | inr x ↦
          elim (form at us t c) [
            | inl y ↦ absurd (no_split b.line y.before c.rest x.none (sym x.whole ∙ y.whole))
            | inr y ↦ (sym x.whole ∙ y.whole, x.no_end ∙ sym y.no_end, x.no_rest ∙ sym y.no_rest)
          ]
    ]

-- no line begins where nothing is
no_line : (at : ℕ) (us : List ℕ) (s : Span) → us ≡ [] → BeginsWith at us s → ⊥
no_line at us s none b =
    elim (form at us s b) [
      | inl x ↦ no_split [] x.before b.rest refl (sym none ∙ x.whole)
      | inr x ↦ x.some (sym x.whole ∙ none)
    ]

pub one_way_to_cut : OneWayToCut
one_way_to_cut at us [] [] p q = refl
one_way_to_cut at us [] (t ∷ others) p q = absurd (no_line at us t p q.0)
one_way_to_cut at us (s ∷ spans) [] p q = absurd (no_line at us s q p.0)
one_way_to_cut at us (s ∷ spans) (t ∷ others) p q =
    let b = p.0 in
    let c = q.0 in
    let same = same_first at us s t b c in
    let place : at + length c.line + length c.line_end ≡ at + length b.line + length b.line_end = ap₂ (λ l e. at + length l + length e) (sym same.0) (sym same.1) in
    let first : s ≡ t = b.lies ∙ ap (λ l. span at (at + length l)) same.0 ∙ sym c.lies in
    let later = one_way_to_cut (at + length b.line + length b.line_end) b.rest spans others p.1 (subst₂ (λ n u. AreLinesOf n u others) place (sym same.2) q.1) in
    ap₂ (λ x xs. x ∷ xs) first later
