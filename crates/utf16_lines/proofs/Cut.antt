-- The lines of a list of units are what its line ends make of it.
use Rattle.std.proofs.Common.{◌≡◌, ◌≢◌, ℕ, ◌+◌, ◌-◌, Bool, true, false, cond, not, ◌&&◌, List, [], ◌∷◌, ◌++◌, length, refl, sym, ap, ◌∙◌, subst, arith, inl, inr, append_assoc, append-nil, length-append}
use Rattle.std.specs.Prelude.{Some, ◌==◌}
use Rattle.std.proofs.lemmas.Bool.{cases_Bool, eqb-true, eqb-false, ne_eqb}
use Rattle.std.proofs.lemmas.Bool.Decides.{nat_tests}
use Rattle.std.proofs.lemmas.Option.{same_Some}
use Rattle.std.proofs.lemmas.List.Folds.{list_all-append}
use Rattle.cov_text.specs.Listing.{last_of}
use Rattle.utf16_lines.specs.declared.Span.{Span}
use Rattle.utf16_lines.specs.Lines.{span, units, lines, spans_from}
use Rattle.utf16_lines.specs.Cutting.{has_no_lf, AreLinesOf, LinesEndAtLineEnds}

pub last_of-push : (xs : List ℕ) (x : ℕ) → last_of (xs ++ x ∷ []) ≡ Some x
last_of-push [] x = refl
last_of-push (y ∷ []) x = refl
last_of-push (y ∷ z ∷ zs) x = last_of-push (z ∷ zs) x

-- whether the units of the open line end with CR, and then those before it
abbrev EndsWith : Bool → List ℕ → Type 0
EndsWith true opened = (front : List ℕ) × (opened ≡ front ++ 13 ∷ [])
EndsWith false opened = last_of opened ≢ Some 13

-- the open line: its units, where the next one stands, and whether it ends with CR
record Opened (start : ℕ) (cr : Bool) (at : ℕ) (opened : List ℕ) : Type 0 where
  reach : at ≡ start + length opened
  one : has_no_lf opened ≡ true
  ends : EndsWith cr opened

-- no unit is open
nothing : (at : ℕ) → Opened at false at []
nothing at = record { reach = omega arith; one = refl; ends = λ e. cc }

-- a unit that is no LF stays in the open line
ends-more : (opened : List ℕ) (u : ℕ) → EndsWith (u == 13) (opened ++ u ∷ [])
ends-more opened u =
    elim (cases_Bool (u == 13)) [
      | inl e ↦ subst (λ b. EndsWith b (opened ++ u ∷ [])) (sym e) (opened, ap (λ n. opened ++ n ∷ []) (eqb-true u 13 e))
      | inr e ↦ subst (λ b. EndsWith b (opened ++ u ∷ [])) (sym e) (λ f. eqb-false u 13 e (same_Some u 13 (sym (last_of-push opened u) ∙ f)))
    ]

more : (start at : ℕ) (cr : Bool) (opened : List ℕ) (u : ℕ) → (u == 10) ≡ false → Opened start cr at opened → Opened start (u == 13) (at + 1) (opened ++ u ∷ [])
more start at cr opened u not_lf o =
    let r = o.reach in
    record {
      reach = omega (arith, length-append opened (u ∷ []));
      one = list_all-append (λ n. not (n == 10)) opened (u ∷ []) ∙ (λ i. o.one i && (not (not_lf i) && true));
      ends = ends-more opened u;
    }

-- an LF ends the open line
front_one : (front : List ℕ) → has_no_lf (front ++ 13 ∷ []) ≡ true → has_no_lf front ≡ true
front_one front e = both_first (has_no_lf front) true (sym (list_all-append (λ n. not (n == 10)) front (13 ∷ [])) ∙ e)
  where
    both_first : (a b : Bool) → (a && b) ≡ true → a ≡ true
    both_first true b e = refl
    both_first false b e = cc

closes : (start at : ℕ) (cr : Bool) (opened us : List ℕ) (spans : List Span) → Opened start cr at opened → AreLinesOf (at + 1) us spans
    → AreLinesOf start (opened ++ 10 ∷ us) (span start (cond cr (at - 1) at) ∷ spans)
closes start at true opened us spans o later =
    let front = o.ends.0 in
    let r = o.reach in
    let size : length opened ≡ length front + 1 = ap length o.ends.1 ∙ length-append front (13 ∷ []) in
    let end : at - 1 ≡ start + length front = omega arith in
    let next : at + 1 ≡ start + length front + 2 = omega arith in (
      record {
        line = front;
        line_end = 13 ∷ 10 ∷ [];
        rest = us;
        whole = ap (λ l. l ++ 10 ∷ us) o.ends.1 ∙ append_assoc front (13 ∷ []) (10 ∷ us);
        lies = ap (span start) end;
        one = front_one front (ap has_no_lf (sym o.ends.1) ∙ o.one);
        ends = inl refl;
      },
      subst (λ n. AreLinesOf n us spans) next later,
    )
closes start at false opened us spans o later =
    let r = o.reach in
    let next : at + 1 ≡ start + length opened + 1 = omega arith in (
      record {
        line = opened;
        line_end = 10 ∷ [];
        rest = us;
        whole = refl;
        lies = ap (span start) r;
        one = o.one;
        ends = inr (inl (refl, o.ends));
      },
      subst (λ n. AreLinesOf n us spans) next later,
    )

-- at the end an open line is the last
last_line : (start at : ℕ) (cr : Bool) (opened : List ℕ) → Opened start cr at opened → AreLinesOf start opened (cond (start == at) [] (span start at ∷ []))
last_line start at cr [] o =
    let r = o.reach in
    let e : start ≡ at = omega arith in
    subst (λ t. AreLinesOf start [] (cond t [] (span start at ∷ []))) (sym (true_eqb start at e)) refl
  where
    true_eqb : (a b : ℕ) → a ≡ b → (a == b) ≡ true
    true_eqb a b e = grind (arith, nat_tests)
last_line start at cr (u ∷ us) o =
    let r = o.reach in
    let apart : (start == at) ≡ false = ne_eqb start at (λ e. omega arith) in
    subst (λ t. AreLinesOf start (u ∷ us) (cond t [] (span start at ∷ []))) (sym apart) (
      record {
        line = u ∷ us;
        line_end = [];
        rest = [];
        whole = sym (append-nil (u ∷ us));
        lies = ap (span start) r;
        one = o.one;
        ends = inr (inr (refl, refl, λ e. cc));
      },
      refl,
    )

spans_from-cut : (start at : ℕ) (cr : Bool) (opened us : List ℕ) → Opened start cr at opened → AreLinesOf start (opened ++ us) (spans_from start cr at us)
spans_from-cut start at cr opened [] o = subst (λ l. AreLinesOf start l (spans_from start cr at [])) (sym (append-nil opened)) (last_line start at cr opened o)
spans_from-cut start at cr opened (u ∷ us) o =
    let now = span start (cond cr (at - 1) at) ∷ spans_from (at + 1) false (at + 1) us in
    let later = spans_from start (u == 13) (at + 1) us in
    elim (cases_Bool (u == 10)) [
      | inl e ↦
          let lf : 10 ≡ u = sym (eqb-true u 10 e) in
          subst (λ t. AreLinesOf start (opened ++ u ∷ us) (cond t now later)) (sym e)
          (subst (λ n. AreLinesOf start (opened ++ n ∷ us) now) lf
          (closes start at cr opened us (spans_from (at + 1) false (at + 1) us) o (spans_from-cut (at + 1) (at + 1) false [] us (nothing (at + 1)))))
      | inr e ↦
          subst (λ t. AreLinesOf start (opened ++ u ∷ us) (cond t now later)) (sym e)
          (subst (λ l. AreLinesOf start l later) (append_assoc opened (u ∷ []) us)
          (spans_from-cut start (at + 1) (u == 13) (opened ++ u ∷ []) us (more start at cr opened u e o)))
    ]

pub lines_end_at_line_ends : LinesEndAtLineEnds
unfolding lines
lines_end_at_line_ends text = spans_from-cut 0 0 false [] (units text) (nothing 0)
