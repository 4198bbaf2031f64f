-- What is kept of the levels, as one run more comes.
use Rattle.std.proofs.Common.{◌≡◌, ◌⊎◌, ℕ, zero, suc, ◌+◌, ◌<◌, ◌≤◌, Bool, true, false, List, [], ◌∷◌, ◌++◌, refl, sym, ap, ◌∙◌, subst, arith, inl, inr, append_assoc, length, length-append, take, set}
use Rattle.std.specs.Prelude.{cond, eqb, Option, None, Some, slice_get}
use Rattle.std.proofs.lemmas.Bool.{eqb-true}
use Rattle.std.proofs.lemmas.Bool.Decides.{nat_tests}
use Rattle.std.proofs.lemmas.Option.{slice_get_within}
use Rattle.std.proofs.lemmas.List.{append-nil}
use Rattle.cov_model.specs.declared.report.Range.{Range}
use Rattle.cov_model.specs.Normal.{range}
use Rattle.cov_model.specs.Nested.{nest, nested}
use Rattle.cov_normal.specs.Stack.{Level, listed, places, IsStack, Keeps, IsNesting, Shows, matched, placed, height_in, root_ended}
use Rattle.cov_normal.proofs.Levels.{grow, fresh, NoneHas, stack-grow, stack-push, levels-end, nest-plain}
use Rattle.cov_normal.proofs.Counting.{nested-root}

-- ---- places

-- where the range of the level at a height is listed
abbrev pub place_of : ℕ → List Level → ℕ
place_of h [] = zero
place_of zero (l ∷ ls) = zero
place_of (suc h) (l ∷ ls) = suc (length l.inside + place_of h ls)

none-more : (n : ℕ) → n + 0 ≡ n
none-more n = omega arith

suc-sum : (n a b : ℕ) → suc (n + a) + b ≡ n + suc (a + b)
suc-sum n a b = omega arith

suc-first : (a b : ℕ) → suc a + b ≡ suc (a + b)
suc-first a b = omega arith

zero-first : (b : ℕ) → 0 + b ≡ b
zero-first b = omega arith

get-place : (n h : ℕ) (ls : List Level) (l : Level) → slice_get ls h ≡ Some l → slice_get (places n ls) h ≡ Some (n + place_of h ls)
get-place n h [] l e = absurd cc
get-place n zero (x ∷ ls) l e = ap Some (sym (none-more n))
get-place n (suc h) (x ∷ ls) l e = get-place (suc (n + length x.inside)) h ls l e ∙ ap Some (suc-sum n (length x.inside) (place_of h ls))

get-behind : {A : Type 0} (xs ys : List A) (j : ℕ) → slice_get (xs ++ ys) (length xs + j) ≡ slice_get ys j
get-behind [] ys j = ap (slice_get ys) (zero-first j)
get-behind (x ∷ xs) ys j = ap (slice_get (x ∷ (xs ++ ys))) (suc-first (length xs) j) ∙ get-behind xs ys j

get-listed : (h : ℕ) (ls : List Level) (l : Level) → slice_get ls h ≡ Some l → slice_get (listed ls) (place_of h ls) ≡ Some l.range
get-listed h [] l e = absurd cc
get-listed zero (x ∷ ls) l e = let is : x ≡ l = cc in ap (λ (m : Level). Some m.range) is
get-listed (suc h) (x ∷ ls) l e = get-behind x.inside (listed ls) (place_of h ls) ∙ get-listed h ls l e

length-places : (n : ℕ) (ls : List Level) → length (places n ls) ≡ length ls
length-places n [] = refl
length-places n (l ∷ ls) = ap suc (length-places (suc (n + length l.inside)) ls)

get-within : {A : Type 0} (xs : List A) (h : ℕ) → h < length xs → (x : A) × (slice_get xs h ≡ Some x)
get-within [] h lt = absurd (omega arith)
get-within (x ∷ xs) zero lt = (x, refl)
get-within (x ∷ xs) (suc h) lt = get-within xs h (omega arith)

-- ---- the height of a count

-- the level at this height has the count
abbrev pub HasAt : List Level → ℕ → ℕ → Type 0
HasAt levels count h = (l : Level) × (slice_get levels h ≡ Some l) × (l.range.count ≡ count)

same-some : {A : Type 0} (x y : A) → Some x ≡ Some y → x ≡ y
same-some x y e = cc

matched-Some : (count h k : ℕ) (o : Option Range) → matched count h o ≡ Some k → (r : Range) × (o ≡ Some r) × (h ≡ k) × (r.count ≡ count)
matched-Some count h k None e = absurd cc
matched-Some count h k (Some r) e = by (eqb r.count count) refl e
  where
    by : (b : Bool) → eqb r.count count ≡ b → cond b (Some h) None ≡ Some k → (q : Range) × (Some r ≡ Some q) × (h ≡ k) × (q.count ≡ count)
    by true is e = (r, refl, same-some h k e, eqb-true r.count count is)
    by false is e = absurd cc

placed-Some : (ranges : List Range) (count h k : ℕ) (o : Option ℕ) → placed ranges count h o ≡ Some k
    → (place : ℕ) × (o ≡ Some place) × ((r : Range) × (slice_get ranges place ≡ Some r) × (h ≡ k) × (r.count ≡ count))
placed-Some ranges count h k None e = absurd cc
placed-Some ranges count h k (Some place) e = (place, refl, matched-Some count h k (slice_get ranges place) e)

height-Some : (ranges : List Range) (stack : List ℕ) (count k : ℕ) (o : Option ℕ) → height_in ranges stack count o ≡ Some k
    → (place : ℕ) × (slice_get stack k ≡ Some place) × ((r : Range) × (slice_get ranges place ≡ Some r) × (r.count ≡ count))
height-Some ranges stack count k None e = absurd cc
height-Some ranges stack count k (Some h) e =
    let found = placed-Some ranges count h k (slice_get stack h) e in
    let is = found.2.2 in
    (found.0, ap (slice_get stack) (sym is) ∙ found.1, (found.2.0, found.2.1, found.2.3))

pub height-found : (levels : List Level) (ranges : List Range) (stack : List ℕ) (height : ℕ → Option ℕ) (count k : ℕ) → Keeps levels ranges stack height
    → height_in ranges stack count (height count) ≡ Some k → HasAt levels count k
height-found levels ranges stack height count k keeps e =
    let found = height-Some ranges stack count k (height count) e in
    let place = found.0 in
    let below : k < length levels = let lt = slice_get_within stack k place found.1 in subst (λ n. k < n) (ap length keeps.own ∙ length-places 0 levels) lt in
    let level = get-within levels k below in
    let is : place ≡ place_of k levels =
    same-some place (place_of k levels) (sym found.1 ∙ ap (λ xs. slice_get xs k) keeps.own ∙ get-place 0 k levels level.0 level.1 ∙ ap Some (zero-first (place_of k levels))) in
    let same : found.2.0 ≡ level.0.range =
    same-some found.2.0 level.0.range (sym found.2.1 ∙ (λ i. slice_get (keeps.all i) (is i)) ∙ get-listed k levels level.0 level.1) in
    (level.0, level.1, ap (λ (r : Range). r.count) (sym same) ∙ found.2.2)

itself : (n : ℕ) → eqb n n ≡ true
itself n = grind (arith, nat_tests)

height-known : (levels : List Level) (ranges : List Range) (stack : List ℕ) (height : ℕ → Option ℕ) (count h : ℕ) (l : Level) → Keeps levels ranges stack height
    → slice_get levels h ≡ Some l → l.range.count ≡ count → height_in ranges stack count (height count) ≡ Some h
height-known levels ranges stack height count h l keeps e is =
    let told : height count ≡ Some h = ap height (sym is) ∙ keeps.counts h l e in
    let place : slice_get stack h ≡ Some (place_of h levels) = ap (λ xs. slice_get xs h) keeps.own ∙ get-place 0 h levels l e ∙ ap Some (zero-first (place_of h levels)) in
    let there : slice_get ranges (place_of h levels) ≡ Some l.range = ap (λ xs. slice_get xs (place_of h levels)) keeps.all ∙ get-listed h levels l e in
    ap (height_in ranges stack count) told ∙ ap (placed ranges count h) place ∙ ap (matched count h) there
    ∙ ap (λ b. cond b (Some h) None) (ap (λ n. eqb n count) is ∙ itself count)

pub height-missing : (levels : List Level) (ranges : List Range) (stack : List ℕ) (height : ℕ → Option ℕ) (count : ℕ) → Keeps levels ranges stack height
    → height_in ranges stack count (height count) ≡ None → NoneHas count levels
height-missing levels ranges stack height count keeps e = λ h l is same. let known = height-known levels ranges stack height count h l keeps is same in cc

-- ---- a range goes on

set-behind : {A : Type 0} (xs ys : List A) (j : ℕ) (a : A) → set (xs ++ ys) (length xs + j) a ≡ xs ++ set ys j a
set-behind [] ys j a = ap (λ n. set ys n a) (zero-first j)
set-behind (x ∷ xs) ys j a = ap (λ n. set (x ∷ (xs ++ ys)) n a) (suc-first (length xs) j) ∙ ap (λ zs. x ∷ zs) (set-behind xs ys j a)

listed-grow : (h end : ℕ) (ls : List Level) (l : Level) → slice_get ls h ≡ Some l → listed (grow h end ls) ≡ set (listed ls) (place_of h ls) (range l.range.start end l.range.count)
listed-grow h end [] l e = absurd cc
listed-grow zero end (x ∷ ls) l e =
    let is : x ≡ l = cc in
    ap (λ xs. range x.range.start end x.range.count ∷ xs) (append-nil (x.inside ++ listed ls)) ∙ ap (λ (m : Level). range m.range.start end m.range.count ∷ (x.inside ++ listed ls)) is
listed-grow (suc h) end (x ∷ ls) l e =
    ap (λ xs. x.range ∷ (x.inside ++ xs)) (listed-grow h end ls l e) ∙ ap (λ xs. x.range ∷ xs) (sym (set-behind x.inside (listed ls) (place_of h ls) (range l.range.start end l.range.count)))

places-grow : (n h end : ℕ) (ls : List Level) → places n (grow h end ls) ≡ take (suc h) (places n ls)
places-grow n h end [] = refl
places-grow n zero end (x ∷ ls) = refl
places-grow n (suc h) end (x ∷ ls) = ap (λ xs. n ∷ xs) (places-grow (suc (n + length x.inside)) h end ls)

get-grow : (h end j : ℕ) (ls : List Level) (l : Level) → slice_get (grow h end ls) j ≡ Some l → (m : Level) × (slice_get ls j ≡ Some m) × (l.range.count ≡ m.range.count)
get-grow h end j [] l e = absurd cc
get-grow zero end zero (x ∷ ls) l e = (x, refl, let is : record { range = range x.range.start end x.range.count; inside = x.inside ++ listed ls } ≡ l = cc in sym (ap (λ (m : Level). m.range.count) is))
get-grow zero end (suc j) (x ∷ ls) l e = absurd cc
get-grow (suc h) end zero (x ∷ ls) l e = (x, refl, let is : x ≡ l = cc in sym (ap (λ (m : Level). m.range.count) is))
get-grow (suc h) end (suc j) (x ∷ ls) l e = get-grow h end j ls l e

-- what `grow` of a nesting leaves
pub record IsGrown (h end : ℕ) (ranges new_ranges : List Range) (stack new_stack : List ℕ) : Type 0 where
  pub kept : new_stack ≡ take (suc h) stack
  pub ended : (place : ℕ) (r : Range) → slice_get stack h ≡ Some place → slice_get ranges place ≡ Some r → new_ranges ≡ set ranges place (range r.start end r.count)

pub nesting-grow : (f : ℕ → ℕ) (start count h : ℕ) (run : Range) (ranges new_ranges : List Range) (stack new_stack : List ℕ) (height : ℕ → Option ℕ)
    → IsNesting f start count run.start ranges stack height → height_in ranges stack run.count (height run.count) ≡ Some h → Shows f run → IsGrown h run.end ranges new_ranges stack new_stack
    → IsNesting f start count run.end new_ranges new_stack height
nesting-grow f start count h run ranges new_ranges stack new_stack height nesting e shows grown =
    let levels = nesting.0 in
    let keeps = nesting.2 in
    let has = height-found levels ranges stack height run.count h keeps e in
    let l = has.0 in
    let place : slice_get stack h ≡ Some (place_of h levels) = ap (λ xs. slice_get xs h) keeps.own ∙ get-place 0 h levels l has.1 ∙ ap Some (zero-first (place_of h levels)) in
    let there : slice_get ranges (place_of h levels) ≡ Some l.range = ap (λ xs. slice_get xs (place_of h levels)) keeps.all ∙ get-listed h levels l has.1 in (
      grow h run.end levels,
      stack-grow f start count h run levels l nesting.1 has.1 has.2 shows,
      record {
        all = grown.ended (place_of h levels) l.range place there ∙ ap (λ xs. set xs (place_of h levels) (range l.range.start run.end l.range.count)) keeps.all ∙ sym (listed-grow h run.end levels l has.1);
        own = grown.kept ∙ ap (take (suc h)) keeps.own ∙ sym (places-grow 0 h run.end levels);
        counts = λ j m is. let old = get-grow h run.end j levels m is in ap height old.2 ∙ keeps.counts j old.0 old.1;
      },
    )

-- ---- a range begins

listed-push : (ls : List Level) (run : Range) → listed (ls ++ fresh run ∷ []) ≡ listed ls ++ run ∷ []
listed-push [] run = refl
listed-push (x ∷ ls) run = ap (λ xs. x.range ∷ (x.inside ++ xs)) (listed-push ls run) ∙ ap (λ xs. x.range ∷ xs) (sym (append_assoc x.inside (listed ls) (run ∷ [])))

places-push : (n : ℕ) (ls : List Level) (run : Range) → places n (ls ++ fresh run ∷ []) ≡ places n ls ++ (n + length (listed ls)) ∷ []
places-push n [] run = ap (λ k. k ∷ []) (sym (none-more n))
places-push n (x ∷ ls) run =
    let len : length (x.inside ++ listed ls) ≡ length x.inside + length (listed ls) = length-append x.inside (listed ls) in
    ap (λ xs. n ∷ xs) (places-push (suc (n + length x.inside)) ls run)
    ∙ ap (λ k. n ∷ (places (suc (n + length x.inside)) ls ++ k ∷ [])) (suc-sum n (length x.inside) (length (listed ls)) ∙ ap (λ k. n + suc k) (sym len))

get-push : {A : Type 0} (xs : List A) (x y : A) (j : ℕ) → slice_get (xs ++ x ∷ []) j ≡ Some y → (slice_get xs j ≡ Some y) ⊎ ((j ≡ length xs) × (x ≡ y))
get-push [] x y zero e = inr (refl, same-some x y e)
get-push [] x y (suc j) e = absurd cc
get-push (z ∷ xs) x y zero e = inl e
get-push (z ∷ xs) x y (suc j) e = elim (get-push xs x y j e) [ inl h ↦ inl h | inr h ↦ inr (ap suc h.0, h.1) ]

-- what `begin` of a nesting leaves
pub record IsBegun (run : Range) (ranges new_ranges : List Range) (stack new_stack : List ℕ) (height new_height : ℕ → Option ℕ) : Type 0 where
  pub listed : new_ranges ≡ ranges ++ run ∷ []
  pub placed : new_stack ≡ stack ++ length ranges ∷ []
  pub here : new_height run.count ≡ Some (length stack)
  pub others : (count : ℕ) → ¬ (count ≡ run.count) → new_height count ≡ height count

pub nesting-begin : (f : ℕ → ℕ) (start count : ℕ) (run : Range) (ranges new_ranges : List Range) (stack new_stack : List ℕ) (height new_height : ℕ → Option ℕ)
    → IsNesting f start count run.start ranges stack height → height_in ranges stack run.count (height run.count) ≡ None → Shows f run
    → IsBegun run ranges new_ranges stack new_stack height new_height
    → IsNesting f start count run.end new_ranges new_stack new_height
nesting-begin f start count run ranges new_ranges stack new_stack height new_height nesting e shows begun =
    let levels = nesting.0 in
    let keeps = nesting.2 in
    let none = height-missing levels ranges stack height run.count keeps e in (
      levels ++ fresh run ∷ [],
      stack-push f start count run levels nesting.1 none shows,
      record {
        all = begun.listed ∙ ap (λ xs. xs ++ run ∷ []) keeps.all ∙ sym (listed-push levels run);
        own = begun.placed ∙ (λ i. keeps.own i ++ length (keeps.all i) ∷ []) ∙ ap (λ k. places 0 levels ++ k ∷ []) (sym (zero-first (length (listed levels)))) ∙ sym (places-push 0 levels run);
        counts = λ j m is. elim (get-push levels (fresh run) m j is) [
          | inl old ↦ begun.others m.range.count (none j m old) ∙ keeps.counts j m old
          | inr new ↦
              ap new_height (ap (λ (x : Level). x.range.count) (sym new.1)) ∙ begun.here
              ∙ ap Some (ap length keeps.own ∙ length-places 0 levels ∙ sym new.0)
        ];
      },
    )

-- ---- the start and the end

pub nesting-new : (f : ℕ → ℕ) (start count : ℕ) (height : ℕ → Option ℕ) → height count ≡ Some 0 → IsNesting f start count start (range start start count ∷ []) (0 ∷ []) height
nesting-new f start count height told = (
  record { range = range start start count; inside = [] } ∷ [],
  (
    refl,
    refl,
    record {
      reached = omega arith;
      gone = λ o low high. absurd (omega arith);
      done = λ y le. refl;
    },
    refl,
  ),
  record {
    all = refl;
    own = refl;
    counts = λ h l is. first h l is;
  },
)
  where
    first : (h : ℕ) (l : Level) → slice_get (record { range = range start start count; inside = [] } ∷ []) h ≡ Some l → height l.range.count ≡ Some h
    first zero l is = let same : record { range = range start start count; inside = [] } ≡ l = cc in ap height (ap (λ (m : Level). m.range.count) (sym same)) ∙ told
    first (suc h) l is = absurd cc

pub nesting-end : (f : ℕ → ℕ) (start count end : ℕ) (ranges : List Range) (stack : List ℕ) (height : ℕ → Option ℕ) → IsNesting f start count end ranges stack height
    → root_ended end ranges ≡ nested start end count f
nesting-end f start count end ranges stack height nesting =
    by nesting.0 nesting.1 (nesting.2.all)
  where
    by : (levels : List Level) → IsStack f start count end levels → ranges ≡ listed levels → root_ended end ranges ≡ nested start end count f
    by [] stack is = absurd stack
    by (l ∷ ls) stack is =
        let le : end ≤ end = omega arith in
        let none : nest end end l.range.count f ≡ [] = nest-plain f end end l.range.count (λ o low high. absurd (omega arith)) in
        let all : nest l.range.start end l.range.count f ≡ l.inside ++ listed ls =
        stack.2.done end stack.2.reached ∙ ap (λ xs. l.inside ++ xs) (levels-end f l.range.end end end l.range.count ls stack.3 stack.2.gone le (λ lt. absurd (omega arith)) ∙ ap (λ xs. listed ls ++ xs) none ∙ append-nil (listed ls)) in
        ap (root_ended end) is ∙ (λ i. range (stack.0 i) end (stack.1 i) ∷ (l.inside ++ listed ls))
        ∙ ap (λ xs. range start end count ∷ xs) (sym all ∙ (λ i. nest (stack.0 i) end (stack.1 i) f))
        ∙ sym (nested-root start end count f)
