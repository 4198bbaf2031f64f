-- Stretches of offsets with one sum each.
use Rattle.std.proofs.Common.{◌≡◌, ℕ, zero, suc, ◌+◌, ◌<◌, ◌≤◌, Bool, true, false, List, [], ◌∷◌, ◌++◌, map, refl, sym, ap, ◌∙◌, subst, arith, inl, inr, length, drop, drop-cons}
use Rattle.std.specs.Prelude.{Option, None, Some, cond, find, filter, option_map, unwrap_or, min, nat_lt, slice_get, sum_by}
use Rattle.std.specs.List.{AllByRecursion}
use Rattle.std.proofs.lemmas.Bool.{cases_lt, lt-ltb, le-ltb}
use Rattle.std.proofs.lemmas.List.Sums.{sum_by-append, sum_by-cons}
use Rattle.std.proofs.lemmas.Option.{slice_get_within, get_or_from_slice_get}
use Rattle.cov_model.specs.declared.report.FunctionReport.{FunctionReport}
use Rattle.cov_model.specs.declared.report.Range.{Range}
use Rattle.cov_model.specs.declared.snapshot.Snapshot.{Snapshot}
use Rattle.cov_model.specs.declared.sums.Key.{Key}
use Rattle.std.specs.Map.{lookup}
use Rattle.std.specs.BTreeMap.{is_at}
use Rattle.cov_model.specs.Sums.{is_of, key_of, same_key, file_order}
use Rattle.cov_steps.specs.Runs.{RunList, AreRuns, count_in, counted}
use Rattle.cov_steps.proofs.Maximal.{AreRuns-ordered, count_in-here, count_in-behind, count_in-maximal}
use Rattle.std.proofs.lemmas.Bool.Decides.{nat_tests}
use Rattle.cov_model.specs.declared.sums.At.{At}
use Rattle.cov_model.specs.declared.sums.At.TheVariants.{Offset}
use Rattle.cov_text.specs.Listing.{limit, offsets}
use Rattle.cov_model.specs.Nesting.{inner_count}
use Rattle.cov_book.specs.Counts.{capped, weight, reports_in}
use Rattle.cov_book.specs.Prepared.{AreAligned}
use Rattle.cov_book.specs.Stretching.{IsCover, sum_in, TellsSums, AreRooted, IfRooted}
use Rattle.cov_book.specs.declared.sums.Sums.{Sums}
use Rattle.cov_book.specs.declared.stretches.Stretch.{Stretch}
use Rattle.cov_book.proofs.Aligned.{IfAligned, aligned-lookup, aligned-report}
use Rattle.cov_book.proofs.Between.{skip-to, none-left}
use Rattle.cov_book.proofs.Finding.{offsets-more}
use Rattle.cov_book.proofs.Ordered.{same-is}

-- ---- the sum at an offset

sum-here : (w : Stretch) (rest : List Stretch) (o : ℕ) → o < w.end → sum_in (w ∷ rest) o ≡ w.sum
sum-here w rest o lt = ap (λ b. cond b w.sum (sum_in rest o)) (lt-ltb o w.end lt)

sum-behind : (w : Stretch) (rest : List Stretch) (o : ℕ) → w.end ≤ o → sum_in (w ∷ rest) o ≡ sum_in rest o
sum-behind w rest o le = ap (λ b. cond b w.sum (sum_in rest o)) (le-ltb o w.end le)

-- one stretch more leaves the sums in front of it
sum-front : (s e : ℕ) (made : List Stretch) (w : Stretch) (o : ℕ) → IsCover s e made → s ≤ o → o < e → sum_in (made ++ w ∷ []) o ≡ sum_in made o
sum-front s e [] w o h low high = absurd (omega (arith, h))
sum-front s e (m ∷ made) w o h low high = elim (cases_lt o m.end) [
  | inl lt ↦ sum-here m (made ++ w ∷ []) o lt ∙ sym (sum-here m made o lt)
  | inr le ↦ sum-behind m (made ++ w ∷ []) o le ∙ sum-front m.end e made w o h.2 le high ∙ sym (sum-behind m made o le)
]

-- and has its own
sum-last : (s e : ℕ) (made : List Stretch) (w : Stretch) (o : ℕ) → IsCover s e made → e ≤ o → o < w.end → sum_in (made ++ w ∷ []) o ≡ w.sum
sum-last s e [] w o h low high = sum-here w [] o high
sum-last s e (m ∷ made) w o h low high = sum-behind m (made ++ w ∷ []) o (omega (arith, h.1)) ∙ sum-last m.end e made w o h.2 low high

cover-push : (s e : ℕ) (made : List Stretch) (w : Stretch) → IsCover s e made → s ≤ e → e < w.end → IsCover s w.end (made ++ w ∷ [])
cover-push s e [] w h le lt = (omega arith, omega arith, omega arith)
cover-push s e (m ∷ made) w h le lt = (h.0, omega (arith, h.1), cover-push m.end e made w h.2 h.1 lt)

-- where offsets are left, so are stretches
pub cover-more : (xs : List Stretch) (i s e : ℕ) → IsCover s e (drop i xs) → s < e → i < length xs
cover-more [] zero s e h lt = absurd (omega (arith, h))
cover-more [] (suc i) s e h lt = absurd (omega (arith, h))
cover-more (x ∷ xs) zero s e h lt = omega arith
cover-more (x ∷ xs) (suc i) s e h lt = omega (arith, cover-more xs i s e h lt)

-- ---- runs that go on

-- the first of the runs has this offset, and they go on up to an end
abbrev pub GoOn : ℕ → ℕ → List Range → Type 0
GoOn from end [] = end ≤ from
GoOn from end (r ∷ rs) = (r.start ≤ from) × (from < r.end) × (r.end ≤ end) × GoOn r.end end rs

go-on : (s e : ℕ) (rs : List Range) → AreRuns s e rs → GoOn s e rs
go-on s e [] h = omega (arith, h)
go-on s e (r ∷ rs) h = (omega (arith, h.0), h.1, AreRuns-ordered r.end e rs h.3, go-on r.end e rs h.3)

pub runs-more : (rs : List Range) (j s e : ℕ) → GoOn s e (drop j rs) → s < e → j < length rs
runs-more [] zero s e h lt = absurd (omega (arith, h))
runs-more [] (suc j) s e h lt = absurd (omega (arith, h))
runs-more (r ∷ rs) zero s e h lt = omega arith
runs-more (r ∷ rs) (suc j) s e h lt = omega (arith, runs-more rs j s e h lt)

-- ---- both lists, side by side

-- the sums and the runs were walked up to an offset, and what is made has the sums up to it
pub record AreWalked (sums : List Stretch) (runs : RunList) (made : List Stretch) (from i j : ℕ) : Type 0 where
  pub low : runs.start ≤ from
  pub high : from ≤ runs.end
  pub covers : IsCover runs.start from made
  pub told : (o : ℕ) → runs.start ≤ o → o < from → sum_in made o ≡ capped (sum_in sums o + count_in runs.runs o)
  pub sums_left : IsCover from runs.end (drop i sums)
  pub runs_left : GoOn from runs.end (drop j runs.runs)
  pub same_sums : (o : ℕ) → from ≤ o → sum_in (drop i sums) o ≡ sum_in sums o
  pub same_runs : (o : ℕ) → from ≤ o → count_in (drop j runs.runs) o ≡ count_in runs.runs o

pub walk-start : (sums : List Stretch) (runs : RunList) (made : List Stretch) (from : ℕ) → IsCover runs.start runs.end sums → AreRuns runs.start runs.end runs.runs
    → made ≡ [] → from ≡ runs.start → AreWalked sums runs made from 0 0
walk-start sums runs made from covers kept none here = record {
  low = omega (arith, here);
  high = omega (arith, here, AreRuns-ordered runs.start runs.end runs.runs kept);
  covers = subst (IsCover runs.start from) (sym none) (omega (arith, here));
  told = λ o low high. absurd (omega (arith, here));
  sums_left = subst (λ s. IsCover s runs.end sums) (sym here) covers;
  runs_left = subst (λ s. GoOn s runs.end runs.runs) (sym here) (go-on runs.start runs.end runs.runs kept);
  same_sums = λ o low. refl;
  same_runs = λ o low. refl;
}

next-sums : (xs : List Stretch) (i k from end to : ℕ) (w : Stretch) → drop i xs ≡ w ∷ drop (i + 1) xs → IsCover from end (drop i xs) → to ≤ w.end
    → (w.end ≡ to → k ≡ i + 1) → (to < w.end → k ≡ i)
    → IsCover to end (drop k xs) × ((o : ℕ) → to ≤ o → sum_in (drop k xs) o ≡ sum_in (drop i xs) o)
next-sums xs i k from end to w cons h le ends stays =
    let c = subst (IsCover from end) cons h in
    elim (cases_lt to w.end) [
      | inl lt ↦
          let same : k ≡ i = stays lt in (
            subst (λ n. IsCover to end (drop n xs)) (sym same) (subst (IsCover to end) (sym cons) (lt, c.1, c.2)),
            λ o low. ap (λ n. sum_in (drop n xs) o) same,
          )
      | inr past ↦
          let here : w.end ≡ to = omega (arith, le, past) in
          let same : k ≡ i + 1 = ends here in (
            subst (λ n. IsCover to end (drop n xs)) (sym same) (subst (λ e. IsCover e end (drop (i + 1) xs)) here c.2),
            λ o low. ap (λ n. sum_in (drop n xs) o) same ∙ sym (sum-behind w (drop (i + 1) xs) o (omega (arith, here, low))) ∙ sym (ap (λ ys. sum_in ys o) cons),
          )
    ]

next-runs : (rs : List Range) (j k from end to : ℕ) (r : Range) → drop j rs ≡ r ∷ drop (j + 1) rs → GoOn from end (drop j rs) → from ≤ to → to ≤ r.end
    → (r.end ≡ to → k ≡ j + 1) → (to < r.end → k ≡ j)
    → GoOn to end (drop k rs) × ((o : ℕ) → to ≤ o → count_in (drop k rs) o ≡ count_in (drop j rs) o)
next-runs rs j k from end to r cons h more le ends stays =
    let c = subst (GoOn from end) cons h in
    elim (cases_lt to r.end) [
      | inl lt ↦
          let same : k ≡ j = stays lt in (
            subst (λ n. GoOn to end (drop n rs)) (sym same) (subst (GoOn to end) (sym cons) (omega (arith, c.0, more), lt, c.2, c.3)),
            λ o low. ap (λ n. count_in (drop n rs) o) same,
          )
      | inr past ↦
          let here : r.end ≡ to = omega (arith, le, past) in
          let same : k ≡ j + 1 = ends here in (
            subst (λ n. GoOn to end (drop n rs)) (sym same) (subst (λ e. GoOn e end (drop (j + 1) rs)) here c.3),
            λ o low. ap (λ n. count_in (drop n rs) o) same ∙ sym (count_in-behind r (drop (j + 1) rs) o (omega (arith, here, low))) ∙ sym (ap (λ ys. count_in ys o) cons),
          )
    ]

pub walk-more : (sums : List Stretch) (runs : RunList) (made more : List Stretch) (from i j p q : ℕ) (w : Stretch) (r : Range) (to sum : ℕ)
    → AreWalked sums runs made from i j → drop i sums ≡ w ∷ drop (i + 1) sums → drop j runs.runs ≡ r ∷ drop (j + 1) runs.runs
    → to ≡ min w.end r.end → sum ≡ capped (w.sum + r.count) → more ≡ made ++ record { end = to; sum = sum } ∷ []
    → (w.end ≡ to → p ≡ i + 1) → (to < w.end → p ≡ i) → (r.end ≡ to → q ≡ j + 1) → (to < r.end → q ≡ j)
    → AreWalked sums runs more to p q
walk-more sums runs made more from i j p q w r to sum b ws rs least is pushed we wl re rl =
    let new : Stretch = record { end = to; sum = sum } in
    let cw = subst (IsCover from runs.end) ws b.sums_left in
    let cr = subst (GoOn from runs.end) rs b.runs_left in
    let lw : to ≤ w.end = omega (arith, least) in
    let lr : to ≤ r.end = omega (arith, least) in
    let lt : from < to = omega (arith, least, cw.0, cr.1) in
    let low : from ≤ to = omega (arith, lt) in
    let s = next-sums sums i p from runs.end to w ws b.sums_left lw we wl in
    let t = next-runs runs.runs j q from runs.end to r rs b.runs_left low lr re rl in
    record {
      low = omega (arith, b.low, lt);
      high = omega (arith, lw, cw.1);
      covers = subst (IsCover runs.start to) (sym pushed) (cover-push runs.start from made new b.covers b.low lt);
      told = λ o from_start below.
          ap (λ xs. sum_in xs o) pushed
          ∙ elim (cases_lt o from) [
            | inl before ↦ sum-front runs.start from made new o b.covers from_start before ∙ b.told o from_start before
            | inr behind ↦
                let one : sum_in sums o ≡ w.sum = sym (b.same_sums o behind) ∙ ap (λ xs. sum_in xs o) ws ∙ sum-here w (drop (i + 1) sums) o (omega (arith, below, lw)) in
                let other : count_in runs.runs o ≡ r.count =
                sym (b.same_runs o behind) ∙ ap (λ xs. count_in xs o) rs ∙ count_in-here r (drop (j + 1) runs.runs) o (omega (arith, cr.0, behind)) (omega (arith, below, lr)) in
                sum-last runs.start from made new o b.covers behind below ∙ is ∙ (λ k. capped (sym one k + sym other k))
          ];
      sums_left = s.0;
      runs_left = t.0;
      same_sums = λ o behind. s.1 o behind ∙ b.same_sums o (omega (arith, behind, low));
      same_runs = λ o behind. t.1 o behind ∙ b.same_runs o (omega (arith, behind, low));
    }

pub walk-smaller : (sums : List Stretch) (runs : RunList) (made : List Stretch) (from i j : ℕ) (w : Stretch) (r : Range) (to : ℕ)
    → AreWalked sums runs made from i j → drop i sums ≡ w ∷ drop (i + 1) sums → drop j runs.runs ≡ r ∷ drop (j + 1) runs.runs → to ≡ min w.end r.end
    → (from < to) × (to ≤ runs.end)
walk-smaller sums runs made from i j w r to b ws rs least =
    let cw = subst (IsCover from runs.end) ws b.sums_left in
    let cr = subst (GoOn from runs.end) rs b.runs_left in
    (omega (arith, least, cw.0, cr.1), omega (arith, least, cw.1))

pub runs-cons : (rs : List Range) (j : ℕ) (r : Range) → slice_get rs j ≡ Some r → drop j rs ≡ r ∷ drop (j + 1) rs
runs-cons rs j r is =
    let next : suc j ≡ j + 1 = omega arith in
    drop-cons rs j r (slice_get_within rs j r is) ∙ (λ k. get_or_from_slice_get rs j r r is k ∷ drop (suc j) rs) ∙ ap (λ n. r ∷ drop n rs) next

-- ---- the sums of reports

abbrev sums_of : ℕ → List FunctionReport → ℕ
sums_of o fs = sum_by (weight (Offset o)) fs

pub tells-more : (s e : ℕ) (fs : List FunctionReport) (f : FunctionReport) (all : List FunctionReport) (runs : RunList) (before after : List Stretch)
    → all ≡ fs ++ f ∷ [] → runs ≡ counted f.ranges → ((counted f.ranges).start ≡ s) × ((counted f.ranges).end ≡ e)
    → TellsSums s e (λ o. sums_of o fs) before → IsCover runs.start runs.end after
    → ((o : ℕ) → runs.start ≤ o → o < runs.end → sum_in after o ≡ capped (sum_in before o + count_in runs.runs o))
    → TellsSums s e (λ o. sums_of o all) after
tells-more s e fs f all runs before after is are root told covers sums =
    let starts : runs.start ≡ s = ap (λ (r : RunList). r.start) are ∙ root.0 in
    let ends : runs.end ≡ e = ap (λ (r : RunList). r.end) are ∙ root.1 in
    record {
      covers = subst (λ n. IsCover n e after) starts (subst (λ n. IsCover runs.start n after) ends covers);
      sums = λ o low high.
          let last : sums_of o all ≡ sums_of o fs + inner_count f.ranges o =
          let one = sum_by-cons (weight (Offset o)) f [] in
          ap (sums_of o) is ∙ sum_by-append (weight (Offset o)) fs (f ∷ []) ∙ ap (λ n. sums_of o fs + n) (omega (arith, one)) in
          let here : count_in runs.runs o ≡ inner_count f.ranges o = ap (λ (r : RunList). count_in r.runs o) are ∙ count-is f.ranges o (omega (arith, low, root.0)) (omega (arith, high, root.1)) in
          sums o (omega (arith, low, starts)) (omega (arith, high, ends))
          ∙ (λ k. capped (told.sums o low high k + here k))
          ∙ twice (sums_of o fs) (inner_count f.ranges o) ∙ ap capped (sym last);
    }
  where
    twice : (n m : ℕ) → capped (capped n + m) ≡ capped (n + m)
    twice n m = omega arith

    count-is : (rs : List Range) (o : ℕ) → (counted rs).start ≤ o → o < (counted rs).end → count_in (counted rs).runs o ≡ inner_count rs o
    count-is [] o low high = absurd (omega (arith, high))
    count-is (r ∷ rs) o low high = count_in-maximal r.start r.end o (inner_count (r ∷ rs)) low high

pub tells-held : (s e : ℕ) (f : ℕ → ℕ) (runs : RunList) (before after : List Stretch) → (runs.start ≡ s) × (runs.end ≡ e)
    → TellsSums s e f before → IsCover runs.start runs.end after
    → ((o : ℕ) → runs.start ≤ o → o < runs.end → sum_in after o ≡ capped (sum_in before o + count_in runs.runs o))
    → TellsSums s e (λ o. count_in runs.runs o + f o) after
tells-held s e f runs before after root told covers sums = record {
  covers = subst (λ n. IsCover n e after) root.0 (subst (λ n. IsCover runs.start n after) root.1 covers);
  sums = λ o low high.
      sums o (omega (arith, low, root.0)) (omega (arith, high, root.1)) ∙ ap (λ n. capped (n + count_in runs.runs o)) (told.sums o low high)
      ∙ other (f o) (count_in runs.runs o);
}
  where
    other : (n m : ℕ) → capped (capped n + m) ≡ capped (m + n)
    other n m = omega arith

-- ---- the reports of a key have its root

passing : {A : Type 0} (P : A → Type 0) (p : A → Bool) → ((x : A) → p x ≡ true → P x) → (xs : List A) → AllByRecursion P (filter p xs)
passing P p h [] = tt
passing P p h (x ∷ xs) = by (p x) refl (passing P p h xs)
  where
    by : (b : Bool) → p x ≡ b → AllByRecursion P (filter p xs) → AllByRecursion P (cond b (x ∷ filter p xs) (filter p xs))
    by true e rest = (h x e, rest)
    by false e rest = rest

both-all : {A : Type 0} (P : A → Type 0) (xs ys : List A) → AllByRecursion P xs → AllByRecursion P ys → AllByRecursion P (xs ++ ys)
both-all P [] ys h k = k
both-all P (x ∷ xs) ys h k = (h.0, both-all P xs ys h.1 k)

root-is : (key : Key) (url : List ℕ) (f : FunctionReport) → is_of key url f ≡ true → ((counted f.ranges).start ≡ key.start) × ((counted f.ranges).end ≡ key.end)
root-is key url f e = by (key_of url f) refl e
  where
    by : (o : Option Key) → key_of url f ≡ o → unwrap_or (option_map (same_key key) o) false ≡ true → ((counted f.ranges).start ≡ key.start) × ((counted f.ranges).end ≡ key.end)
    by None is e = absurd cc
    by (Some k) is e =
        let same : key ≡ k = same-is key k e in
        let a = aligned-report url f k is in (
          a.0 ∙ ap (λ (x : Key). x.start) (sym same),
          a.1 ∙ ap (λ (x : Key). x.end) (sym same),
        )

pub rooted : (key : Key) (snapshot : Snapshot) → AreRooted key.start key.end (reports_in key snapshot)
rooted key [] = tt
rooted key (entry ∷ entries) =
    let P : FunctionReport → Type 0 = λ f. ((counted f.ranges).start ≡ key.start) × ((counted f.ranges).end ≡ key.end) in
    both-all P (filter (is_of key entry.url) entry.functions) (reports_in key entries) (passing P (is_of key entry.url) (root-is key entry.url) entry.functions) (rooted key entries)

-- ---- the first offset past the limit

-- of the stretches those behind a place are left, and the first offset past the limit is among theirs
pub record IsAhead (sums : List Stretch) (start from k end : ℕ) (p : At → Bool) : Type 0 where
  pub low : start ≤ from
  pub covers : IsCover from end (drop k sums)
  pub same : (o : ℕ) → from ≤ o → sum_in (drop k sums) o ≡ sum_in sums o
  pub found : find p (map Offset (offsets from end)) ≡ find p (map Offset (offsets start end))

abbrev pub Tests : List Stretch → ℕ → ℕ → (At → Bool) → Type 0
Tests sums start end p = (o : ℕ) → start ≤ o → o < end → p (Offset o) ≡ nat_lt limit (sum_in sums o)

pub ahead-start : (sums : List Stretch) (start end : ℕ) (p : At → Bool) → IsCover start end sums → IsAhead sums start start 0 end p
ahead-start sums start end p h = record { low = omega arith; covers = h; same = λ o low. refl; found = refl }

here-sum : (sums : List Stretch) (start from k end : ℕ) (p : At → Bool) (w : Stretch) → IsAhead sums start from k end p → Tests sums start end p → drop k sums ≡ w ∷ drop (k + 1) sums
    → (o : ℕ) → from ≤ o → o < w.end → p (Offset o) ≡ nat_lt limit w.sum
here-sum sums start from k end p w b tests cons o low high =
    let c = subst (IsCover from end) cons b.covers in
    tests o (omega (arith, b.low, low)) (omega (arith, high, c.1))
    ∙ ap (nat_lt limit) (sym (b.same o low) ∙ ap (λ xs. sum_in xs o) cons ∙ sum-here w (drop (k + 1) sums) o high)

pub ahead-more : (sums : List Stretch) (start from k end : ℕ) (p : At → Bool) (w : Stretch) → IsAhead sums start from k end p → Tests sums start end p → drop k sums ≡ w ∷ drop (k + 1) sums
    → nat_lt limit w.sum ≡ false → IsAhead sums start w.end (k + 1) end p
ahead-more sums start from k end p w b tests cons under =
    let c = subst (IsCover from end) cons b.covers in
    record {
      low = omega (arith, b.low, c.0);
      covers = c.2;
      same = λ o low. sym (sum-behind w (drop (k + 1) sums) o low) ∙ sym (ap (λ xs. sum_in xs o) cons) ∙ b.same o (omega (arith, low, c.0));
      found =
          sym (skip-to p from w.end end (omega (arith, c.0)) c.1 (λ x low high. here-sum sums start from k end p w b tests cons x low high ∙ under))
          ∙ b.found;
    }

pub ahead-found : (sums : List Stretch) (start from k end : ℕ) (p : At → Bool) (w : Stretch) → IsAhead sums start from k end p → Tests sums start end p → drop k sums ≡ w ∷ drop (k + 1) sums
    → nat_lt limit w.sum ≡ true → Some (Offset from) ≡ find p (map Offset (offsets start end))
ahead-found sums start from k end p w b tests cons over =
    let c = subst (IsCover from end) cons b.covers in
    let lt : from < end = omega (arith, c.0, c.1) in
    let first = here-sum sums start from k end p w b tests cons from (omega arith) c.0 ∙ over in
    sym (ap (λ os. find p (map Offset os)) (offsets-more from end lt) ∙ ap (λ t. cond t (Some (Offset from)) (find p (map Offset (offsets (from + 1) end)))) first)
    ∙ b.found

pub ahead-end : (sums : List Stretch) (start from k end : ℕ) (p : At → Bool) → IsAhead sums start from k end p → drop k sums ≡ [] → None ≡ find p (map Offset (offsets start end))
ahead-end sums start from k end p b none = sym (none-left p from end (subst (IsCover from end) none b.covers)) ∙ b.found

-- ---- points of a key

over-capped : (n : ℕ) → nat_lt limit (capped n) ≡ nat_lt limit n
over-capped n = grind (arith, nat_tests)

-- the tests at the offsets are those of the sums told
pub tests-told : (s e : ℕ) (f : ℕ → ℕ) (sums : List Stretch) (p : At → Bool) → TellsSums s e f sums → ((o : ℕ) → p (Offset o) ≡ nat_lt limit (f o)) → Tests sums s e p
tests-told s e f sums p told h o low high = h o ∙ sym (ap (nat_lt limit) (told.sums o low high) ∙ over-capped (f o))

-- ---- what is held of a key goes over its root

pub rooted-lookup : (entries : List (Key × Sums)) (key : Key) → AreAligned entries → IfRooted key.start key.end (lookup (is_at (file_order key)) entries)
rooted-lookup entries key h = by (lookup (is_at (file_order key)) entries) (aligned-lookup entries key h)
  where
    by : (o : Option Sums) → IfAligned key o → IfRooted key.start key.end o
    by None a = tt
    by (Some v) a = a
