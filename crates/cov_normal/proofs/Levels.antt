-- Levels of ranges that may go on, as one run more comes.
use Rattle.std.proofs.Common.{◌≡◌, ℕ, zero, suc, ◌-◌, ◌<◌, ◌≤◌, List, [], ◌∷◌, ◌++◌, refl, sym, ap, ◌∙◌, arith, inl, inr, append_assoc}
use Rattle.std.specs.Prelude.{Some, slice_get}
use Rattle.std.proofs.lemmas.Bool.{cases_lt}
use Rattle.std.proofs.lemmas.List.{append-nil}
use Rattle.cov_model.specs.declared.report.Range.{Range}
use Rattle.cov_model.specs.Normal.{range}
use Rattle.cov_model.specs.Nested.{nest}
use Rattle.cov_normal.specs.Nests.{IsChild, Nests}
use Rattle.cov_normal.specs.Nests.Nests.{plain, child}
use Rattle.cov_normal.specs.Stack.{Level, listed, MayGoOn, AreLevels, IsStack, Shows}
use Rattle.cov_normal.proofs.Nests.{only, nests}

-- ---- parts of the nested list

pub nest-plain : (f : ℕ → ℕ) (s e c : ℕ) → ((o : ℕ) → s ≤ o → o < e → f o ≡ c) → nest s e c f ≡ []
nest-plain f s e c all = only f s e c (nest s e c f) [] (nests f s e c) (plain s e c [] all refl)

nest-child : (f : ℕ → ℕ) (s e c a b p : ℕ) → IsChild f s e c a b p → nest s e c f ≡ range a (suc p) (f a) ∷ (nest a (suc p) (f a) f ++ nest (suc p) e c f)
nest-child f s e c a b p h =
    let all = range a (suc p) (f a) ∷ (nest a (suc p) (f a) f ++ nest (suc p) e c f) in
    only f s e c (nest s e c f) all (nests f s e c)
    (child s e c a b p (nest a (suc p) (f a) f) (nest (suc p) e c f) all h (nests f a (suc p) (f a)) (nests f (suc p) e c) refl)

skips : (f : ℕ → ℕ) (s t e c : ℕ) (xs : List Range) → s ≤ t → ((o : ℕ) → s ≤ o → o < t → f o ≡ c) → Nests f t e c xs → Nests f s e c xs
skips f s t e c xs le same (plain _ _ _ _ all is) = plain s e c xs (λ o low high. elim (cases_lt o t) [ inl lt ↦ same o low lt | inr past ↦ all o past high ]) is
skips f s t e c xs le same (child _ _ _ a b p inside behind _ h i k is) =
    let from = h.from in
    child s e c a b p inside behind xs (record {
      from = omega arith;
      to = h.to;
      first = λ o low high. elim (cases_lt o t) [ inl lt ↦ same o low lt | inr past ↦ h.first o past high ];
      other = h.other;
      back = h.back;
      low = h.low;
      high = h.high;
      same = h.same;
      last = h.last;
    }) i k is

-- what has the count by itself adds nothing
pub nest-skip : (f : ℕ → ℕ) (s t e c : ℕ) → s ≤ t → ((o : ℕ) → s ≤ o → o < t → f o ≡ c) → nest s e c f ≡ nest t e c f
nest-skip f s t e c le same = only f s e c (nest s e c f) (nest t e c f) (nests f s e c) (skips f s t e c (nest t e c f) le same (nests f t e c))

-- ---- all levels end

-- a range that doesn't go on has what is listed inside it
ends : (f : ℕ → ℕ) (at : ℕ) (l : Level) → MayGoOn f at l → nest l.range.start l.range.end l.range.count f ≡ l.inside
ends f at l h =
    let itself : l.range.end ≤ l.range.end = omega arith in
    h.done l.range.end itself ∙ ap (λ xs. l.inside ++ xs) (nest-plain f l.range.end l.range.end l.range.count (λ o low high. absurd (omega arith)))
    ∙ append-nil l.inside

first-child : (f : ℕ → ℕ) (from at y c p : ℕ) (l : Level) → l.range.start ≡ from → from < l.range.end → f from ≡ l.range.count → l.range.end ≡ suc p → f p ≡ l.range.count
    → MayGoOn f at l → ((o : ℕ) → from ≤ o → o < at → ¬ (f o ≡ c)) → at ≤ y → (at < y → f at ≡ c) → IsChild f from y c from at p
first-child f from at y c p l starts up counts is last h other le back =
    let reached = h.reached in
    record {
      from = omega arith;
      to = le;
      first = λ o low high. absurd (omega arith);
      other = other;
      back = back;
      low = omega arith;
      high = omega arith;
      same = last ∙ sym counts;
      last = λ o low high same. h.gone o (omega arith) high (same ∙ counts);
    }

first-range : (f : ℕ → ℕ) (from p : ℕ) (l : Level) → l.range.start ≡ from → f from ≡ l.range.count → l.range.end ≡ suc p → range from (suc p) (f from) ≡ l.range
first-range f from p l starts counts is = λ i. range (sym starts i) (sym is i) (counts i)

first-inside : (f : ℕ → ℕ) (from at p : ℕ) (l : Level) → l.range.start ≡ from → f from ≡ l.range.count → l.range.end ≡ suc p → MayGoOn f at l
    → nest from (suc p) (f from) f ≡ l.inside
first-inside f from at p l starts counts is h = (λ i. nest (sym starts i) (sym is i) (counts i) f) ∙ ends f at l h

-- Where the count of the parent comes, or the end, the levels are listed.
pub levels-end : (f : ℕ → ℕ) (from at y c : ℕ) (ls : List Level) → AreLevels f from at ls → ((o : ℕ) → from ≤ o → o < at → ¬ (f o ≡ c)) → at ≤ y → (at < y → f at ≡ c)
    → nest from y c f ≡ listed ls ++ nest at y c f
levels-end f from at y c [] h other le back = ap (λ n. nest n y c f) h
levels-end f from at y c (l ∷ ls) h other le back =
    let p = h.3.0 in
    let is = h.3.1 in
    let up = h.1 in
    let later = levels-end f l.range.end at y c ls h.5 (λ o low high. other o (omega arith) high) le back in
    nest-child f from y c from at p (first-child f from at y c p l h.0 up h.2 is h.3.2 h.4 other le back)
    ∙ (λ i. first-range f from p l h.0 h.2 is i ∷ (first-inside f from at p l h.0 h.2 is h.4 i ++ nest (sym is i) y c f))
    ∙ ap (λ xs. l.range ∷ (l.inside ++ xs)) later
    ∙ ap (λ xs. l.range ∷ xs) (sym (append_assoc l.inside (listed ls) (nest at y c f)))

-- ---- a range goes on

-- the level at a height goes on up to the end, and those above it are listed inside it
abbrev pub grow : ℕ → ℕ → List Level → List Level
grow h end [] = []
grow zero end (l ∷ ls) = record { range = range l.range.start end l.range.count; inside = l.inside ++ listed ls } ∷ []
grow (suc h) end (l ∷ ls) = l ∷ grow h end ls

grown-may : (f : ℕ → ℕ) (run : Range) (l : Level) (ls : List Level) → MayGoOn f run.start l → AreLevels f l.range.end run.start ls → l.range.count ≡ run.count → Shows f run
    → MayGoOn f run.end (record { range = range l.range.start run.end l.range.count; inside = l.inside ++ listed ls })
grown-may f run l ls may levels is shows =
    let up = shows.0 in
    let reached = may.reached in
    let itself : run.start ≤ run.start = omega arith in
    let back : f run.start ≡ l.range.count = shows.1 run.start itself up ∙ sym is in
    record {
      reached = omega arith;
      gone = λ o low high. absurd (omega arith);
      done = λ y le.
          may.done y (omega arith)
          ∙ ap (λ xs. l.inside ++ xs) (levels-end f l.range.end run.start y l.range.count ls levels may.gone (omega arith) (λ _. back)
          ∙ ap (λ xs. listed ls ++ xs) (nest-skip f run.start run.end y l.range.count (omega arith) (λ o low high. shows.1 o low high ∙ sym is)))
          ∙ sym (append_assoc l.inside (listed ls) (nest run.end y l.range.count f));
    }

kept-may : (f : ℕ → ℕ) (run : Range) (l : Level) → MayGoOn f run.start l → ¬ (l.range.count ≡ run.count) → Shows f run → MayGoOn f run.end l
kept-may f run l may other shows =
    let up = shows.0 in
    let reached = may.reached in
    record {
      reached = omega arith;
      gone = λ o low high same. elim (cases_lt o run.start) [
        | inl lt ↦ may.gone o low lt same
        | inr past ↦ other (sym same ∙ shows.1 o past high)
      ];
      done = may.done;
    }

-- the count of a level comes
comes : (f : ℕ → ℕ) (from at h : ℕ) (ls : List Level) (l : Level) → AreLevels f from at ls → slice_get ls h ≡ Some l → (a : ℕ) × (from ≤ a) × (a < at) × (f a ≡ l.range.count)
comes f from at h [] l levels e = absurd cc
comes f from at zero (x ∷ ls) l levels e =
    let is : x ≡ l = cc in
    let up = levels.1 in
    let reached = levels.4.reached in
    (from, omega arith, omega arith, levels.2 ∙ ap (λ (m : Level). m.range.count) is)
comes f from at (suc h) (x ∷ ls) l levels e =
    let later = comes f x.range.end at h ls l levels.5 e in
    let up = levels.1 in
    let low = later.1 in
    (later.0, omega arith, later.2, later.3)

-- so it isn't that of a level below
comes-otherwise : (f : ℕ → ℕ) (at h : ℕ) (x l : Level) (ls : List Level) (c : ℕ) → MayGoOn f at x → AreLevels f x.range.end at ls → slice_get ls h ≡ Some l → l.range.count ≡ c
    → ¬ (x.range.count ≡ c)
comes-otherwise f at h x l ls c may levels e is same =
    let there = comes f x.range.end at h ls l levels e in
    may.gone there.0 there.1 there.2 (there.3 ∙ is ∙ sym same)

before : (n m : ℕ) → m < n → n ≡ suc (n - 1)
before n m lt = omega arith

last-shows : (f : ℕ → ℕ) (run : Range) (c : ℕ) → c ≡ run.count → Shows f run → (p : ℕ) × (run.end ≡ suc p) × (f p ≡ c)
last-shows f run c is shows =
    let up = shows.0 in
    (run.end - 1, before run.end run.start up, shows.1 (run.end - 1) (omega arith) (omega arith) ∙ sym is)

levels-grow : (f : ℕ → ℕ) (from h : ℕ) (run : Range) (ls : List Level) (l : Level) → AreLevels f from run.start ls → slice_get ls h ≡ Some l → l.range.count ≡ run.count → Shows f run
    → AreLevels f from run.end (grow h run.end ls)
levels-grow f from h run [] l levels e is shows = absurd cc
levels-grow f from zero run (x ∷ ls) l levels e is shows =
    let same : x ≡ l = cc in
    let counts : x.range.count ≡ run.count = ap (λ (m : Level). m.range.count) same ∙ is in
    let up = levels.1 in
    let on = shows.0 in
    let reached = levels.4.reached in
    (levels.0, omega arith, levels.2, last-shows f run x.range.count counts shows, grown-may f run x ls levels.4 levels.5 counts shows, refl)
levels-grow f from (suc h) run (x ∷ ls) l levels e is shows =
    (levels.0, levels.1, levels.2, levels.3, kept-may f run x levels.4 (comes-otherwise f run.start h x l ls run.count levels.4 levels.5 e is) shows, levels-grow f x.range.end h run ls l levels.5 e is shows)

pub stack-grow : (f : ℕ → ℕ) (start count h : ℕ) (run : Range) (ls : List Level) (l : Level) → IsStack f start count run.start ls → slice_get ls h ≡ Some l → l.range.count ≡ run.count → Shows f run
    → IsStack f start count run.end (grow h run.end ls)
stack-grow f start count h run [] l stack e is shows = absurd stack
stack-grow f start count zero run (x ∷ ls) l stack e is shows =
    let same : x ≡ l = cc in
    let counts : x.range.count ≡ run.count = ap (λ (m : Level). m.range.count) same ∙ is in
    (stack.0, stack.1, grown-may f run x ls stack.2 stack.3 counts shows, refl)
stack-grow f start count (suc h) run (x ∷ ls) l stack e is shows =
    (stack.0, stack.1, kept-may f run x stack.2 (comes-otherwise f run.start h x l ls run.count stack.2 stack.3 e is) shows, levels-grow f x.range.end h run ls l stack.3 e is shows)

-- ---- a range begins

abbrev pub fresh : Range → Level
fresh run = record { range = run; inside = [] }

fresh-may : (f : ℕ → ℕ) (run : Range) → Shows f run → MayGoOn f run.end (fresh run)
fresh-may f run shows =
    let up = shows.0 in
    record {
      reached = omega arith;
      gone = λ o low high. absurd (omega arith);
      done = λ y le. nest-skip f run.start run.end y run.count (omega arith) shows.1;
    }

-- no level has the count
abbrev pub NoneHas : ℕ → List Level → Type 0
NoneHas count ls = (h : ℕ) (l : Level) → slice_get ls h ≡ Some l → ¬ (l.range.count ≡ count)

levels-push : (f : ℕ → ℕ) (from : ℕ) (run : Range) (ls : List Level) → AreLevels f from run.start ls → NoneHas run.count ls → Shows f run → AreLevels f from run.end (ls ++ fresh run ∷ [])
levels-push f from run [] levels none shows =
    let up = shows.0 in
    let itself : run.start ≤ run.start = omega arith in
    (sym levels, omega arith, ap f levels ∙ shows.1 run.start itself up, last-shows f run run.count refl shows, fresh-may f run shows, refl)
levels-push f from run (x ∷ ls) levels none shows =
    (levels.0, levels.1, levels.2, levels.3, kept-may f run x levels.4 (none 0 x refl) shows, levels-push f x.range.end run ls levels.5 (λ h l e. none (suc h) l e) shows)

pub stack-push : (f : ℕ → ℕ) (start count : ℕ) (run : Range) (ls : List Level) → IsStack f start count run.start ls → NoneHas run.count ls → Shows f run
    → IsStack f start count run.end (ls ++ fresh run ∷ [])
stack-push f start count run [] stack none shows = absurd stack
stack-push f start count run (x ∷ ls) stack none shows =
    (stack.0, stack.1, kept-may f run x stack.2 (none 0 x refl) shows, levels-push f x.range.end run ls stack.3 (λ h l e. none (suc h) l e) shows)
