-- Maximal runs: how they grow at their end, that they count what they were made of, and that their counts determine them.
use Rattle.std.proofs.Common.{◌≡◌, ℕ, zero, suc, ◌+◌, ◌-◌, ◌<◌, ◌≤◌, Bool, true, false, List, [], ◌∷◌, refl, sym, ap, ◌∙◌, subst, arith, inl, inr}
use Rattle.std.specs.Prelude.{cond, eqb, nat_le, nat_lt, ◌&&◌}
use Rattle.std.proofs.lemmas.Bool.{cases_lt, cases_Bool, lt-ltb, le-ltb, lt-leb, le-leb, eqb-true, ne_eqb}
use Rattle.std.proofs.lemmas.Bool.Decides.{nat_tests}
use Rattle.cov_model.specs.declared.report.Range.{Range}
use Rattle.cov_model.specs.Normal.{range, grown, runs_over, maximal_runs}
use Rattle.cov_steps.specs.Runs.{BeginsOtherwise, AreRuns, count_in}
use Rattle.cov_steps.specs.Walking.{pushed}

-- ---- tests

eqb-swap : (a b : ℕ) → eqb a b ≡ eqb b a
eqb-swap a b = grind (arith, nat_tests)

eqb-same : (a : ℕ) → eqb a a ≡ true
eqb-same a = grind (arith, nat_tests)

eqb-false : (a b : ℕ) → eqb a b ≡ false → ¬ (a ≡ b)
eqb-false a b e = grind (arith, nat_tests)

-- ---- growing at the end

pushed-one : (s c : ℕ) (r run : Range) (p q : Bool) → eqb r.count c ≡ p → eqb r.count run.count ≡ q → eqb c run.count ≡ cond p q (eqb c run.count)
    → grown s c (cond q (range r.start run.end r.count ∷ []) (r ∷ run ∷ [])) ≡ pushed (cond p (range s r.end c ∷ []) (range s (suc s) c ∷ r ∷ [])) run
pushed-one s c r run true true ep eq e =
    ap (λ b. cond b (range s run.end c ∷ []) (range s (suc s) c ∷ range r.start run.end r.count ∷ [])) ep ∙ sym (ap (λ b. cond b (range s run.end c ∷ []) (range s r.end c ∷ run ∷ [])) e)
pushed-one s c r run true false ep eq e =
    ap (λ b. cond b (range s r.end c ∷ run ∷ []) (range s (suc s) c ∷ r ∷ run ∷ [])) ep ∙ sym (ap (λ b. cond b (range s run.end c ∷ []) (range s r.end c ∷ run ∷ [])) e)
pushed-one s c r run false true ep eq e =
    ap (λ b. cond b (range s run.end c ∷ []) (range s (suc s) c ∷ range r.start run.end r.count ∷ [])) ep
    ∙ sym (ap (λ b. range s (suc s) c ∷ cond b (range r.start run.end r.count ∷ []) (r ∷ run ∷ [])) eq)
pushed-one s c r run false false ep eq e =
    ap (λ b. cond b (range s r.end c ∷ run ∷ []) (range s (suc s) c ∷ r ∷ run ∷ [])) ep
    ∙ sym (ap (λ b. range s (suc s) c ∷ cond b (range r.start run.end r.count ∷ []) (r ∷ run ∷ [])) eq)

counts-agree : (c r run : ℕ) (p : Bool) → eqb r c ≡ p → eqb c run ≡ cond p (eqb r run) (eqb c run)
counts-agree c r run true e = ap (λ x. eqb x run) (sym (eqb-true r c e))
counts-agree c r run false e = refl

grown-pushed : (s c : ℕ) (rs : List Range) (run : Range) → grown s c (pushed rs run) ≡ pushed (grown s c rs) run
grown-pushed s c [] run = ap (λ b. cond b (range s run.end c ∷ []) (range s (suc s) c ∷ run ∷ [])) (eqb-swap run.count c)
grown-pushed s c (r ∷ []) run = pushed-one s c r run (eqb r.count c) (eqb r.count run.count) refl refl (counts-agree c r.count run.count (eqb r.count c) refl)
grown-pushed s c (r ∷ next ∷ rest) run =
    elim (eqb r.count c) as (λ b. cond b (range s r.end c ∷ pushed (next ∷ rest) run) (range s (suc s) c ∷ r ∷ pushed (next ∷ rest) run) ≡ pushed (cond b (range s r.end c ∷ next ∷ rest) (range s (suc s) c ∷ r ∷ next ∷ rest)) run) [
      | true ↦ refl
      | false ↦ refl
    ]

-- the offset s before one run of its count
grown-same : (s c : ℕ) (r : Range) (rest : List Range) (f : ℕ) → r.count ≡ c → f ≡ c → grown s f (r ∷ rest) ≡ range s r.end c ∷ rest
grown-same s c r rest f is same =
    ap (λ x. grown s x (r ∷ rest)) same ∙ ap (λ b. cond b (range s r.end c ∷ rest) (range s (suc s) c ∷ r ∷ rest)) (ap (λ x. eqb x c) is ∙ eqb-same c)

grown-otherwise : (s c : ℕ) (rest : List Range) → BeginsOtherwise c rest → grown s c rest ≡ range s (suc s) c ∷ rest
grown-otherwise s c [] h = refl
grown-otherwise s c (r ∷ rest) h = ap (λ b. cond b (range s r.end c ∷ rest) (range s (suc s) c ∷ r ∷ rest)) (ne_eqb r.count c h)

-- one count from s up to m, and what comes behind begins with another
runs_over-ahead : (k s m e c : ℕ) (f : ℕ → ℕ) (rest : List Range) → s + suc k ≡ m → m ≤ e → ((o : ℕ) → s ≤ o → o < m → f o ≡ c) → BeginsOtherwise c rest
    → runs_over m (e - m) f ≡ rest → runs_over s (e - s) f ≡ range s m c ∷ rest
runs_over-ahead zero s m e c f rest is le same other further =
    let one : e - s ≡ suc (e - m) = omega arith in
    let next : suc s ≡ m = omega arith in
    ap (λ n. runs_over s n f) one
    ∙ (λ i. grown s (same s (omega arith) (omega arith) i) (runs_over (next i) (e - m) f))
    ∙ ap (grown s c) further
    ∙ grown-otherwise s c rest other
    ∙ (λ i. range s (next i) c ∷ rest)
runs_over-ahead (suc k) s m e c f rest is le same other further =
    let one : e - s ≡ suc (e - suc s) = omega arith in
    ap (λ n. runs_over s n f) one
    ∙ ap (grown s (f s)) (runs_over-ahead k (suc s) m e c f rest (omega arith) le (λ o low high. same o (omega arith) high) other further)
    ∙ grown-same s c (range (suc s) m c) rest (f s) refl (same s (omega arith) (omega arith))

runs_over-none : (s : ℕ) (f : ℕ → ℕ) → runs_over s (s - s) f ≡ []
runs_over-none s f = let none : s - s ≡ zero = omega arith in ap (λ n. runs_over s n f) none

runs_over-pushed : (n s m e c : ℕ) (f : ℕ → ℕ) → s + n ≡ m → m < e → ((o : ℕ) → m ≤ o → o < e → f o ≡ c)
    → runs_over s (e - s) f ≡ pushed (runs_over s n f) (range m e c)
runs_over-pushed zero s m e c f is lt same =
    let here : s ≡ m = omega arith in
    runs_over-ahead (e - suc s) s e e c f [] (omega arith) (omega arith) (λ o low high. same o (omega arith) high) tt (runs_over-none e f)
    ∙ (λ i. range (here i) e c ∷ [])
runs_over-pushed (suc n) s m e c f is lt same =
    let one : e - s ≡ suc (e - suc s) = omega arith in
    ap (λ k. runs_over s k f) one
    ∙ ap (grown s (f s)) (runs_over-pushed n (suc s) m e c f (omega arith) lt same)
    ∙ grown-pushed s (f s) (runs_over (suc s) n f) (range m e c)

-- Runs up to m and one count from there up to e are the runs up to e.
pub maximal_runs-pushed : (s m e c : ℕ) (f : ℕ → ℕ) → s ≤ m → m < e → ((o : ℕ) → m ≤ o → o < e → f o ≡ c)
    → maximal_runs s e f ≡ pushed (maximal_runs s m f) (range m e c)
unfolding maximal_runs
maximal_runs-pushed s m e c f le lt same = runs_over-pushed (m - s) s m e c f (omega arith) lt same

pub maximal_runs-none : (s : ℕ) (f : ℕ → ℕ) → maximal_runs s s f ≡ []
unfolding maximal_runs
maximal_runs-none s f = runs_over-none s f

-- ---- one list for functions that agree

runs_over-same : (n s : ℕ) (f g : ℕ → ℕ) → ((o : ℕ) → s ≤ o → o < s + n → f o ≡ g o) → runs_over s n f ≡ runs_over s n g
runs_over-same zero s f g same = refl
runs_over-same (suc n) s f g same =
    (λ i. grown s (same s (omega arith) (omega arith) i) (runs_over-same n (suc s) f g (λ o low high. same o (omega arith) (omega arith)) i))

pub maximal_runs-same : (s e : ℕ) (f g : ℕ → ℕ) → ((o : ℕ) → s ≤ o → o < e → f o ≡ g o) → maximal_runs s e f ≡ maximal_runs s e g
unfolding maximal_runs
maximal_runs-same s e f g same = runs_over-same (e - s) s f g (λ o low high. same o low (omega arith))

-- ---- maximal runs are runs

pub AreRuns-ordered : (s e : ℕ) (rs : List Range) → AreRuns s e rs → s ≤ e
AreRuns-ordered s e [] h = omega arith
AreRuns-ordered s e (r ∷ rs) h = omega (arith, h.1, AreRuns-ordered r.end e rs h.3)

begins : (a b : ℕ) (rs : List Range) → a ≡ b → BeginsOtherwise a rs → BeginsOtherwise b rs
begins a b rs e h = subst (λ c. BeginsOtherwise c rs) e h

AreRuns-grown : (s e c : ℕ) (rs : List Range) → s < e → AreRuns (suc s) e rs → AreRuns s e (grown s c rs)
AreRuns-grown s e c [] lt h = (refl, omega arith, tt, h)
AreRuns-grown s e c (r ∷ rs) lt h =
    let after : suc s < r.end = h.1 in
    elim (cases_Bool (eqb r.count c)) [
      | inl same ↦
          subst (λ b. AreRuns s e (cond b (range s r.end c ∷ rs) (range s (suc s) c ∷ r ∷ rs))) (sym same) (refl, omega arith, begins r.count c rs (eqb-true r.count c same) h.2, h.3)
      | inr other ↦
          subst (λ b. AreRuns s e (cond b (range s r.end c ∷ rs) (range s (suc s) c ∷ r ∷ rs))) (sym other) (refl, omega arith, eqb-false r.count c other, h)
    ]

AreRuns-runs_over : (n s e : ℕ) (f : ℕ → ℕ) → s + n ≡ e → AreRuns s e (runs_over s n f)
AreRuns-runs_over zero s e f is = omega arith
AreRuns-runs_over (suc n) s e f is = AreRuns-grown s e (f s) (runs_over (suc s) n f) (omega arith) (AreRuns-runs_over n (suc s) e f (omega arith))

pub AreRuns-maximal : (s e : ℕ) (f : ℕ → ℕ) → s ≤ e → AreRuns s e (maximal_runs s e f)
unfolding maximal_runs
AreRuns-maximal s e f le = AreRuns-runs_over (e - s) s e f (omega arith)

-- ---- what they count

pub count_in-here : (run : Range) (rest : List Range) (o : ℕ) → run.start ≤ o → o < run.end → count_in (run ∷ rest) o ≡ run.count
count_in-here run rest o low high =
    ap (λ b. cond (b && nat_lt o run.end) run.count (count_in rest o)) (le-leb run.start o low) ∙ ap (λ b. cond b run.count (count_in rest o)) (lt-ltb o run.end high)

and-no : (a : Bool) → (a && false) ≡ false
and-no true = refl
and-no false = refl

pub count_in-behind : (run : Range) (rest : List Range) (o : ℕ) → run.end ≤ o → count_in (run ∷ rest) o ≡ count_in rest o
count_in-behind run rest o past =
    ap (λ b. cond (nat_le run.start o && b) run.count (count_in rest o)) (le-ltb o run.end past) ∙ ap (λ b. cond b run.count (count_in rest o)) (and-no (nat_le run.start o))

count_in-grown : (s e c o : ℕ) (rs : List Range) → AreRuns (suc s) e rs → s ≤ o → count_in (grown s c rs) o ≡ cond (nat_le (suc s) o) (count_in rs o) c
count_in-grown s e c o [] h low =
    elim (cases_lt s o) [
      | inl past ↦ count_in-behind (range s (suc s) c) [] o past ∙ sym (ap (λ b. cond b 0 c) (le-leb (suc s) o past))
      | inr first ↦ count_in-here (range s (suc s) c) [] o low (omega arith) ∙ sym (ap (λ b. cond b 0 c) (lt-leb (suc s) o (omega arith)))
    ]
count_in-grown s e c o (r ∷ rs) h low =
    let begin : r.start ≡ suc s = h.0 in
    let after : suc s < r.end = h.1 in
    elim (cases_Bool (eqb r.count c)) [
      | inl same ↦
          ap (λ b. count_in (cond b (range s r.end c ∷ rs) (range s (suc s) c ∷ r ∷ rs)) o) same
          ∙ elim (cases_lt s o) [
            | inl past ↦
                elim (cases_lt o r.end) [
                  | inl inside ↦
                      count_in-here (range s r.end c) rs o low inside ∙ sym (eqb-true r.count c same) ∙ sym (count_in-here r rs o (omega arith) inside)
                      ∙ sym (ap (λ b. cond b (count_in (r ∷ rs) o) c) (le-leb (suc s) o past))
                  | inr behind ↦
                      count_in-behind (range s r.end c) rs o behind ∙ sym (count_in-behind r rs o behind)
                      ∙ sym (ap (λ b. cond b (count_in (r ∷ rs) o) c) (le-leb (suc s) o past))
                ]
            | inr first ↦
                count_in-here (range s r.end c) rs o low (omega arith) ∙ sym (ap (λ b. cond b (count_in (r ∷ rs) o) c) (lt-leb (suc s) o (omega arith)))
          ]
      | inr other ↦
          ap (λ b. count_in (cond b (range s r.end c ∷ rs) (range s (suc s) c ∷ r ∷ rs)) o) other
          ∙ elim (cases_lt s o) [
            | inl past ↦ count_in-behind (range s (suc s) c) (r ∷ rs) o past ∙ sym (ap (λ b. cond b (count_in (r ∷ rs) o) c) (le-leb (suc s) o past))
            | inr first ↦
                count_in-here (range s (suc s) c) (r ∷ rs) o low (omega arith) ∙ sym (ap (λ b. cond b (count_in (r ∷ rs) o) c) (lt-leb (suc s) o (omega arith)))
          ]
    ]

count_in-runs_over : (n s e o : ℕ) (f : ℕ → ℕ) → s + n ≡ e → s ≤ o → o < e → count_in (runs_over s n f) o ≡ f o
count_in-runs_over zero s e o f is low high = absurd (omega arith)
count_in-runs_over (suc n) s e o f is low high =
    count_in-grown s e (f s) o (runs_over (suc s) n f) (AreRuns-runs_over n (suc s) e f (omega arith)) low
    ∙ elim (cases_lt s o) [
      | inl past ↦ ap (λ b. cond b (count_in (runs_over (suc s) n f) o) (f s)) (le-leb (suc s) o past) ∙ count_in-runs_over n (suc s) e o f (omega arith) past high
      | inr first ↦
          let here : s ≡ o = omega arith in ap (λ b. cond b (count_in (runs_over (suc s) n f) o) (f s)) (lt-leb (suc s) o (omega arith)) ∙ ap f here
    ]

-- Maximal runs count at each offset what they were made of.
pub count_in-maximal : (s e o : ℕ) (f : ℕ → ℕ) → s ≤ o → o < e → count_in (maximal_runs s e f) o ≡ f o
unfolding maximal_runs
count_in-maximal s e o f low high = count_in-runs_over (e - s) s e o f (omega arith) low high

-- ---- runs are the maximal runs of what they count

runs_over-counts : (s e : ℕ) (rs : List Range) (f : ℕ → ℕ) → AreRuns s e rs → ((o : ℕ) → s ≤ o → o < e → f o ≡ count_in rs o) → runs_over s (e - s) f ≡ rs
runs_over-counts s e [] f h same = let none : e - s ≡ zero = omega (arith, h) in ap (λ n. runs_over s n f) none
runs_over-counts s e (r ∷ rs) f h same =
    let begin : r.start ≡ s = h.0 in
    let after : s < r.end = h.1 in
    let le : r.end ≤ e = AreRuns-ordered r.end e rs h.3 in
    runs_over-ahead (r.end - suc s) s r.end e r.count f rs (omega arith) le (λ o low high. same o low (omega arith) ∙ count_in-here r rs o (omega arith) high) h.2
    (runs_over-counts r.end e rs f h.3 (λ o low high. same o (omega arith) high ∙ count_in-behind r rs o low))
    ∙ (λ i. range (sym begin i) r.end r.count ∷ rs)

pub maximal_runs-counts : (s e : ℕ) (rs : List Range) (f : ℕ → ℕ) → AreRuns s e rs → ((o : ℕ) → s ≤ o → o < e → f o ≡ count_in rs o) → maximal_runs s e f ≡ rs
unfolding maximal_runs
maximal_runs-counts s e rs f h same = runs_over-counts s e rs f h same
