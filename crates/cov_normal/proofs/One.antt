-- There is exactly one flat list.
use Rattle.std.proofs.Common.{◌≡◌, ℕ, ◌<◌, ◌≤◌, true, false, List, [], ◌∷◌, refl, sym, ap, ◌∙◌, subst, arith, inl, inr}
use Rattle.std.specs.Prelude.{cond, eqb, ◌==◌, ◌&&◌, not, nat_le, nat_lt, Some}
use Rattle.std.specs.List.{list_all}
use Rattle.std.proofs.lemmas.Bool.{cases_lt, cases_Bool, lt-ltb, le-ltb, le-leb, ne_eqb, and_from}
use Rattle.std.proofs.lemmas.Bool.Decides.{nat_tests}
use Rattle.cov_model.specs.declared.report.Range.{Range}
use Rattle.cov_model.specs.Nesting.{inner}
use Rattle.cov_model.specs.Normal.{range, maximal_runs, flat, is_flat, each_next, is_followed_by, IsFlatOf}
use Rattle.cov_model.proofs.Flat.{flat_counts}
use Rattle.cov_steps.specs.Runs.{BeginsOtherwise, AreRuns, count_in}
use Rattle.cov_steps.proofs.Maximal.{AreRuns-ordered, AreRuns-maximal, maximal_runs-same, maximal_runs-counts}
use Rattle.cov_normal.specs.Parts.{may_stand, counts_otherwise, told}
use Rattle.cov_normal.specs.Laws.{ThereIsOne, ThereIsNoOther}
use Rattle.cov_normal.proofs.Lists.{Apart, NextOtherwise, Known, known}

-- ---- all runs of a root, from those that are told

-- a run of the count c from s up to m, where that isn't empty, before the others
abbrev gap : ℕ → ℕ → ℕ → List Range → List Range
gap s m c rs = cond (nat_lt s m) (range s m c ∷ rs) rs

-- the ranges, and runs of the count c wherever they leave a gap
abbrev filled : ℕ → ℕ → ℕ → List Range → List Range
filled s e c [] = gap s e c []
filled s e c (r ∷ rs) = gap s r.start c (r ∷ filled r.end e c rs)

AreRuns-gap : (s m e c : ℕ) (rs : List Range) → s ≤ m → BeginsOtherwise c rs → AreRuns m e rs → AreRuns s e (gap s m c rs)
AreRuns-gap s m e c rs le other h =
    elim (cases_lt s m) [
      | inl lt ↦ subst (λ b. AreRuns s e (cond b (range s m c ∷ rs) rs)) (sym (lt-ltb s m lt)) (refl, lt, other, h)
      | inr past ↦ let here : m ≡ s = omega arith in subst (λ b. AreRuns s e (cond b (range s m c ∷ rs) rs)) (sym (le-ltb s m past)) (subst (λ n. AreRuns n e rs) here h)
    ]

begins-gap : (b s m c : ℕ) (rs : List Range) → s ≤ m → ¬ (c ≡ b) → (s ≡ m → BeginsOtherwise b rs) → BeginsOtherwise b (gap s m c rs)
begins-gap b s m c rs le other h =
    elim (cases_lt s m) [
      | inl lt ↦ subst (λ t. BeginsOtherwise b (cond t (range s m c ∷ rs) rs)) (sym (lt-ltb s m lt)) other
      | inr past ↦ subst (λ t. BeginsOtherwise b (cond t (range s m c ∷ rs) rs)) (sym (le-ltb s m past)) (h (omega arith))
    ]

begins-filled : (r : Range) (e c : ℕ) (rs : List Range) → ¬ (r.count ≡ c) → NextOtherwise r rs → Apart r.end e c rs → BeginsOtherwise r.count (filled r.end e c rs)
begins-filled r e c [] other next h = begins-gap r.count r.end e c [] h (λ same. other (sym same)) (λ _. tt)
begins-filled r e c (x ∷ xs) other next h =
    begins-gap r.count r.end x.start c (x ∷ filled x.end e c xs) h.0 (λ same. other (sym same)) (λ touch same. next touch (sym same))

AreRuns-filled : (s e c : ℕ) (rs : List Range) → Apart s e c rs → AreRuns s e (filled s e c rs)
AreRuns-filled s e c [] h = AreRuns-gap s e e c [] h tt refl
AreRuns-filled s e c (r ∷ rs) h =
    AreRuns-gap s r.start e c (r ∷ filled r.end e c rs) h.0 h.2 (refl, h.1, begins-filled r e c rs h.2 h.3 h.4, AreRuns-filled r.end e c rs h.4)

-- ---- what is told of them again

eqb-same : (a : ℕ) → eqb a a ≡ true
eqb-same a = grind (arith, nat_tests)

told-same : (root r : Range) (rs : List Range) → r.count ≡ root.count → told root (r ∷ rs) ≡ told root rs
told-same root r rs same = ap (λ b. cond (not b) (r ∷ told root rs) (told root rs)) (ap (λ n. eqb n root.count) same ∙ eqb-same root.count)

told-other : (root r : Range) (rs : List Range) → ¬ (r.count ≡ root.count) → told root (r ∷ rs) ≡ r ∷ told root rs
told-other root r rs other = ap (λ b. cond (not b) (r ∷ told root rs) (told root rs)) (ne_eqb r.count root.count other)

told-gap : (root : Range) (s m : ℕ) (rs : List Range) → told root (gap s m root.count rs) ≡ told root rs
told-gap root s m rs =
    elim (nat_lt s m) as (λ b. told root (cond b (range s m root.count ∷ rs) rs) ≡ told root rs) [
      | true ↦ told-same root (range s m root.count) rs refl
      | false ↦ refl
    ]

told-filled : (root : Range) (s e : ℕ) (rs : List Range) → Apart s e root.count rs → told root (filled s e root.count rs) ≡ rs
told-filled root s e [] h = told-gap root s e []
told-filled root s e (r ∷ rs) h =
    told-gap root s r.start (r ∷ filled r.end e root.count rs) ∙ told-other root r (filled r.end e root.count rs) h.2 ∙ ap (λ xs. r ∷ xs) (told-filled root r.end e rs h.4)

-- ---- a list of this shape is the flat list of its counts

-- with the counts of the runs that it leaves
flat-filled : (root : Range) (rest : List Range) (f : ℕ → ℕ) → Known root rest
    → ((o : ℕ) → root.start ≤ o → o < root.end → f o ≡ count_in (filled root.start root.end root.count rest) o)
    → flat root.start root.end root.count f ≡ root ∷ rest
unfolding flat
flat-filled root rest f is same =
    let all = filled root.start root.end root.count rest in
    let runs : maximal_runs root.start root.end f ≡ all = maximal_runs-counts root.start root.end all f (AreRuns-filled root.start root.end root.count rest is.apart) same in
    ap (λ xs. root ∷ told root xs) runs ∙ ap (λ xs. root ∷ xs) (told-filled root root.start root.end rest is.apart)

inner-filled : (root : Range) (rest : List Range) (o : ℕ) → Known root rest → root.start ≤ o → o < root.end
    → inner (root ∷ rest) o ≡ Some (count_in (filled root.start root.end root.count rest) o)
inner-filled root rest o is low high =
    let f = count_in (filled root.start root.end root.count rest) in
    ap (λ ranges. inner ranges o) (sym (flat-filled root rest f is (λ o low high. refl))) ∙ flat_counts root.start root.end root.count f o low high

some-same : (a b : ℕ) → Some a ≡ Some b → a ≡ b
some-same a b e = cc

flat-of : (root : Range) (rest : List Range) (f : ℕ → ℕ) → is_flat (root ∷ rest) ≡ true
    → ((o : ℕ) → root.start ≤ o → o < root.end → inner (root ∷ rest) o ≡ Some (f o))
    → flat root.start root.end root.count f ≡ root ∷ rest
flat-of root rest f e counts =
    let is = known root rest e in
    flat-filled root rest f is (λ o low high. some-same (f o) (count_in (filled root.start root.end root.count rest) o) (sym (counts o low high) ∙ inner-filled root rest o is low high))

pub flat-same : (s e c : ℕ) (f g : ℕ → ℕ) → ((o : ℕ) → s ≤ o → o < e → f o ≡ g o) → flat s e c f ≡ flat s e c g
unfolding flat
flat-same s e c f g same = ap (λ rs. range s e c ∷ told (range s e c) rs) (maximal_runs-same s e f g same)

one-is : (s e c : ℕ) (f : ℕ → ℕ) (ranges : List Range) → IsFlatOf s e c f ranges → flat s e c f ≡ ranges
one-is s e c f ranges h =
    let rest = h.root.0 in
    let is : ranges ≡ range s e c ∷ rest = h.root.1 in
    flat-of (range s e c) rest f (ap is_flat (sym is) ∙ h.shape) (λ o low high. ap (λ rs. inner rs o) (sym is) ∙ h.counts o low high) ∙ sym is

pub there_is_no_other : ThereIsNoOther
there_is_no_other s e c f a b ha hb = sym (one-is s e c f a ha) ∙ one-is s e c f b hb

-- ---- the flat list has the shape

may-run : (root r : Range) → r.start < r.end → root.start ≤ r.start → r.end ≤ root.end → not (r.count == root.count) ≡ true → may_stand root r ≡ true
may-run root r up from to other = grind (arith, nat_tests)

may-told : (root : Range) (s : ℕ) (rs : List Range) → root.start ≤ s → AreRuns s root.end rs → list_all (may_stand root) (told root rs) ≡ true
may-told root s [] from h = refl
may-told root s (r ∷ rs) from h =
    let later = may-told root r.end rs (omega (arith, h.0, h.1)) h.3 in
    elim (cases_Bool (counts_otherwise root r)) [
      | inl other ↦
          ap (λ b. list_all (may_stand root) (cond b (r ∷ told root rs) (told root rs))) other
          ∙ and_from (may_stand root r) (list_all (may_stand root) (told root rs)) (may-run root r (omega (arith, h.0, h.1)) (omega (arith, h.0)) (AreRuns-ordered r.end root.end rs h.3) other) later
      | inr same ↦ ap (λ b. list_all (may_stand root) (cond b (r ∷ told root rs) (told root rs))) same ∙ later
    ]

follows : (a b : Range) → a.end ≤ b.start → (a.end ≡ b.start → ¬ (b.count ≡ a.count)) → is_followed_by a b ≡ true
follows a b le other =
    elim (cases_lt a.end b.start) [
      | inl lt ↦ follows-far a b lt
      | inr past ↦ let touch : a.end ≡ b.start = omega arith in follows-near a b touch (other touch)
    ]
  where
    follows-far : (a b : Range) → a.end < b.start → is_followed_by a b ≡ true
    follows-far a b lt = grind (arith, nat_tests)

    follows-near : (a b : Range) → a.end ≡ b.start → ¬ (b.count ≡ a.count) → is_followed_by a b ≡ true
    follows-near a b touch other = grind (arith, nat_tests)

-- with one before them that has another count where it touches
next-told : (root before : Range) (s : ℕ) (rs : List Range) → before.end ≤ s → (before.end ≡ s → BeginsOtherwise before.count rs) → AreRuns s root.end rs
    → each_next is_followed_by (before ∷ told root rs) ≡ true
next-told root before s [] le other h = refl
next-told root before s (r ∷ rs) le other h =
    let begin : r.start ≡ s = h.0 in
    let touches : r.end ≤ r.end = omega arith in
    elim (cases_Bool (counts_otherwise root r)) [
      | inl tells ↦
          ap (λ b. each_next is_followed_by (before ∷ cond b (r ∷ told root rs) (told root rs))) tells
          ∙ and_from (is_followed_by before r) (each_next is_followed_by (r ∷ told root rs)) (follows before r (omega arith) (λ touch. other (touch ∙ begin)))
          (next-told root r r.end rs touches (λ _. h.2) h.3)
      | inr same ↦
          ap (λ b. each_next is_followed_by (before ∷ cond b (r ∷ told root rs) (told root rs))) same
          ∙ next-told root before r.end rs (omega (arith, h.1)) (λ touch. absurd (omega (arith, h.1))) h.3
    ]

each-told : (root : Range) (s : ℕ) (rs : List Range) → AreRuns s root.end rs → each_next is_followed_by (told root rs) ≡ true
each-told root s [] h = refl
each-told root s (r ∷ rs) h =
    let touches : r.end ≤ r.end = omega arith in
    elim (counts_otherwise root r) as (λ b. each_next is_followed_by (cond b (r ∷ told root rs) (told root rs)) ≡ true) [
      | true ↦ next-told root r r.end rs touches (λ _. h.2) h.3
      | false ↦ each-told root r.end rs h.3
    ]

pub flat-shape : (s e c : ℕ) (f : ℕ → ℕ) → s ≤ e → is_flat (flat s e c f) ≡ true
unfolding flat is_flat
flat-shape s e c f le =
    let root = range s e c in
    let runs = maximal_runs s e f in
    let are = AreRuns-maximal s e f le in
    let itself : s ≤ s = omega arith in
    and_from (nat_le s e) (list_all (may_stand root) (told root runs) && each_next is_followed_by (told root runs)) (le-leb s e le)
    (and_from (list_all (may_stand root) (told root runs)) (each_next is_followed_by (told root runs)) (may-told root s runs itself are) (each-told root s runs are))

flat-root : (s e c : ℕ) (f : ℕ → ℕ) → flat s e c f ≡ range s e c ∷ told (range s e c) (maximal_runs s e f)
unfolding flat
flat-root s e c f = refl

pub there_is_one : ThereIsOne
there_is_one s e c f le = record {
  shape = flat-shape s e c f le;
  root = (told (range s e c) (maximal_runs s e f), flat-root s e c f);
  counts = flat_counts s e c f;
}

-- ---- the flat list of runs

pub flat-runs : (s e c : ℕ) (rs : List Range) (from to : ℕ) → from ≡ s → to ≡ e → AreRuns from to rs → range s e c ∷ told (range s e c) rs ≡ flat s e c (count_in rs)
unfolding flat
flat-runs s e c rs from to starts ends h =
    let are : AreRuns s e rs = subst (λ n. AreRuns s n rs) ends (subst (λ n. AreRuns n to rs) starts h) in
    ap (λ xs. range s e c ∷ told (range s e c) xs) (sym (maximal_runs-counts s e rs (count_in rs) are (λ o low high. refl)))
