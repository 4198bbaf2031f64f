-- The flat normal list counts what it was made of.
use Rattle.std.proofs.Common.{◌≡◌, ℕ, zero, suc, ◌+◌, ◌-◌, ◌<◌, ◌≤◌, Bool, true, false, List, [], ◌∷◌, refl, sym, ap, ◌∙◌, subst, arith, inl, inr}
use Rattle.std.specs.Prelude.{Some, option_map, cond, filter, not, ◌&&◌, nat_le, nat_lt, eqb, ◌==◌}
use Rattle.std.proofs.Math.Bool.{and-false}
use Rattle.std.proofs.lemmas.Bool.{cases_lt, cases_Bool, lt-ltb, le-ltb, lt-leb, le-leb, eqb-true, not-false}
use Rattle.cov_model.specs.declared.report.Range.{Range}
use Rattle.cov_text.specs.Listing.{last_of}
use Rattle.cov_model.specs.Nesting.{size, has_offset, around, is_shortest, inner}
use Rattle.cov_model.specs.Normal.{range, grown, runs_over, maximal_runs, flat}
use Rattle.cov_model.specs.Laws.{FlatCounts}

-- The runs lie end to end from start to end, each with the counts of f.
abbrev Tiles : ℕ → ℕ → (ℕ → ℕ) → List Range → Type 0
Tiles start end f [] = start ≡ end
Tiles start end f (r ∷ rs) = (r.start ≡ start) × (start < r.end) × (r.end ≤ end) × ((o : ℕ) → start ≤ o → o < r.end → f o ≡ r.count) × Tiles r.end end f rs

Tiles-grown : (s e : ℕ) (f : ℕ → ℕ) (rs : List Range) → s < e → Tiles (suc s) e f rs → Tiles s e f (grown s (f s) rs)
Tiles-grown s e f [] lt t =
    (refl, omega arith, omega arith, (λ o low high. let here : o ≡ s = omega arith in ap f here), t)
Tiles-grown s e f (r ∷ rs) lt t =
    let after : suc s < r.end = t.1 in
    elim (cases_Bool (eqb r.count (f s))) [
      | inl same ↦
          subst (λ b. Tiles s e f (cond b (range s r.end (f s) ∷ rs) (range s (suc s) (f s) ∷ r ∷ rs))) (sym same) (
            refl,
            omega arith,
            t.2,
            (λ o low high. elim (cases_lt s o) [
              | inl past ↦ t.3 o (omega arith) high ∙ eqb-true r.count (f s) same
              | inr first ↦ let here : o ≡ s = omega arith in ap f here
            ]),
            t.4,
          )
      | inr other ↦
          subst (λ b. Tiles s e f (cond b (range s r.end (f s) ∷ rs) (range s (suc s) (f s) ∷ r ∷ rs))) (sym other)
          (refl, omega arith, omega (arith, t.2), (λ o low high. let here : o ≡ s = omega arith in ap f here), t)
    ]

Tiles-runs : (n s e : ℕ) (f : ℕ → ℕ) → s + n ≡ e → Tiles s e f (runs_over s n f)
Tiles-runs zero s e f is = omega arith
Tiles-runs (suc n) s e f is = Tiles-grown s e f (runs_over (suc s) n f) (omega arith) (Tiles-runs n (suc s) e f (omega arith))

none_below : (s e : ℕ) (f : ℕ → ℕ) (rs : List Range) (o : ℕ) → Tiles s e f rs → o < s → filter (has_offset o) rs ≡ []
none_below s e f [] o t lt = refl
none_below s e f (r ∷ rs) o t lt =
    let begins : r.start ≡ s = t.0 in
    let before : o < r.start = omega arith in
    ap (λ b. cond (b && nat_lt o r.end) (r ∷ filter (has_offset o) rs) (filter (has_offset o) rs)) (lt-leb r.start o before)
    ∙ none_below r.end e f rs o t.4 (omega (arith, t.1))

-- one run has the offset
record One (s e : ℕ) (f : ℕ → ℕ) (rs : List Range) (o : ℕ) : Type 0 where
  run : Range
  only : filter (has_offset o) rs ≡ run ∷ []
  count : run.count ≡ f o
  short : size run ≤ e - s

one_run : (s e : ℕ) (f : ℕ → ℕ) (rs : List Range) (o : ℕ) → Tiles s e f rs → s ≤ o → o < e → One s e f rs o
one_run s e f [] o t low high = absurd (omega arith)
one_run s e f (r ∷ rs) o t low high =
    let begins : r.start ≡ s = t.0 in
    elim (cases_lt o r.end) [
      | inl inside ↦
          let from : r.start ≤ o = omega arith in
          record {
            run = r;
            only =
                ap (λ b. cond (b && nat_lt o r.end) (r ∷ filter (has_offset o) rs) (filter (has_offset o) rs)) (le-leb r.start o from)
                ∙ ap (λ b. cond b (r ∷ filter (has_offset o) rs) (filter (has_offset o) rs)) (lt-ltb o r.end inside)
                ∙ ap (λ tail. r ∷ tail) (none_below r.end e f rs o t.4 inside);
            count = sym (t.3 o low inside);
            short = omega (arith, t.2);
          }
      | inr past ↦
          let later = one_run r.end e f rs o t.4 past high in
          record {
            run = later.run;
            only =
                ap (λ b. cond (nat_le r.start o && b) (r ∷ filter (has_offset o) rs) (filter (has_offset o) rs)) (le-ltb o r.end past)
                ∙ ap (λ b. cond b (r ∷ filter (has_offset o) rs) (filter (has_offset o) rs)) (and-false (nat_le r.start o))
                ∙ later.only;
            count = later.count;
            short = omega (arith, later.short, t.1);
          }
    ]

filter-swap : (p q : Range → Bool) (rs : List Range) → filter p (filter q rs) ≡ filter q (filter p rs)
filter-swap p q [] = refl
filter-swap p q (r ∷ rs) = both (p r) (q r) refl refl (filter-swap p q rs)
  where
    both : (a b : Bool) → p r ≡ a → q r ≡ b → filter p (filter q rs) ≡ filter q (filter p rs) → filter p (cond (q r) (r ∷ filter q rs) (filter q rs)) ≡ filter q (cond (p r) (r ∷ filter p rs) (filter p rs))
    both true true pa qb ih =
        ap (λ b. filter p (cond b (r ∷ filter q rs) (filter q rs))) qb ∙ ap (λ a. cond a (r ∷ filter p (filter q rs)) (filter p (filter q rs))) pa
        ∙ ap (λ tail. r ∷ tail) ih
        ∙ sym (ap (λ a. filter q (cond a (r ∷ filter p rs) (filter p rs))) pa ∙ ap (λ b. cond b (r ∷ filter q (filter p rs)) (filter q (filter p rs))) qb)
    both true false pa qb ih =
        ap (λ b. filter p (cond b (r ∷ filter q rs) (filter q rs))) qb ∙ ih
        ∙ sym (ap (λ a. filter q (cond a (r ∷ filter p rs) (filter p rs))) pa ∙ ap (λ b. cond b (r ∷ filter q (filter p rs)) (filter q (filter p rs))) qb)
    both false true pa qb ih =
        ap (λ b. filter p (cond b (r ∷ filter q rs) (filter q rs))) qb ∙ ap (λ a. cond a (r ∷ filter p (filter q rs)) (filter p (filter q rs))) pa
        ∙ ih ∙ sym (ap (λ a. filter q (cond a (r ∷ filter p rs) (filter p rs))) pa)
    both false false pa qb ih =
        ap (λ b. filter p (cond b (r ∷ filter q rs) (filter q rs))) qb ∙ ih ∙ sym (ap (λ a. filter q (cond a (r ∷ filter p rs) (filter p rs))) pa)

-- the innermost of a root and one run, and of a root alone
last_two : (t : Bool) (a b : Range) → last_of (cond t (a ∷ b ∷ []) (b ∷ [])) ≡ Some b
last_two true a b = refl
last_two false a b = refl

inner_pair : (root run : Range) → size run ≤ size root → last_of (filter (is_shortest (root ∷ run ∷ [])) (root ∷ run ∷ [])) ≡ Some run
inner_pair root run le =
    let q = is_shortest (root ∷ run ∷ []) in
    let itself : size run ≤ size run = omega arith in
    let is : q run ≡ true = (λ i. le-leb (size run) (size root) le i && (nat_le (size run) (size run) && true)) ∙ (λ i. le-leb (size run) (size run) itself i && true) in
    ap (λ b. last_of (cond (q root) (root ∷ cond b (run ∷ []) []) (cond b (run ∷ []) []))) is ∙ last_two (q root) root run

inner_single : (root : Range) → last_of (filter (is_shortest (root ∷ [])) (root ∷ [])) ≡ Some root
inner_single root = let itself : size root ≤ size root = omega arith in λ i. last_of (cond (le-leb (size root) (size root) itself i && true) (root ∷ []) [])

pub flat_counts : FlatCounts
unfolding inner flat maximal_runs
flat_counts s e c f o low high =
    let root = range s e c in
    let p = has_offset o in
    let q : Range → Bool = λ run. not (run.count == c) in
    let runs = runs_over s (e - s) f in
    let one = one_run s e f runs o (Tiles-runs (e - s) s e f (omega arith)) low high in
    let in_root : p root ≡ true = (λ i. le-leb s o low i && nat_lt o e) ∙ lt-ltb o e high in
    let seen : filter p (filter q runs) ≡ cond (q one.run) (one.run ∷ []) [] = filter-swap p q runs ∙ ap (filter q) one.only in
    let there : around (root ∷ filter q runs) o ≡ root ∷ cond (q one.run) (one.run ∷ []) [] =
    ap (λ b. cond b (root ∷ filter p (filter q runs)) (filter p (filter q runs))) in_root ∙ ap (λ tail. root ∷ tail) seen in
    let counted : (t : Bool) → q one.run ≡ t → option_map (λ r. r.count) (last_of (filter (is_shortest (root ∷ cond t (one.run ∷ []) [])) (root ∷ cond t (one.run ∷ []) []))) ≡ Some (f o) =
    elim [
      | true ↦ λ is. ap (option_map (λ r. r.count)) (inner_pair root one.run one.short) ∙ ap Some one.count
      | false ↦ λ is. ap (option_map (λ r. r.count)) (inner_single root) ∙ ap Some (sym (eqb-true one.run.count c (not-false (one.run.count == c) is)) ∙ one.count)
    ] in
    ap (λ rs. option_map (λ r. r.count) (last_of (filter (is_shortest rs) rs))) there ∙ counted (q one.run) refl
