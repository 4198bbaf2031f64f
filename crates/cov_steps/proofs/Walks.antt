-- Two lists of runs that are walked together.
use Rattle.std.proofs.Common.{◌≡◌, ℕ, zero, suc, ◌+◌, ◌<◌, ◌≤◌, List, [], ◌∷◌, sym, ap, ◌∙◌, subst, arith, inl, inr, length, drop, drop-cons}
use Rattle.std.specs.Prelude.{Some, slice_get}
use Rattle.std.proofs.lemmas.Bool.{cases_lt}
use Rattle.std.proofs.lemmas.Option.{slice_get_within, get_or_from_slice_get}
use Rattle.cov_model.specs.declared.report.Range.{Range}
use Rattle.cov_model.specs.Normal.{range, maximal_runs}
use Rattle.cov_text.specs.Listing.{limit}
use Rattle.cov_steps.specs.Runs.{RunList, AreRuns, count_in, sum_at}
use Rattle.cov_steps.specs.Walking.{pushed, Walked}
use Rattle.cov_steps.proofs.Maximal.{maximal_runs-pushed, maximal_runs-none, count_in-here, count_in-behind}

pub maximal_runs-empty : (s m : ℕ) (f : ℕ → ℕ) → m ≡ s → maximal_runs s m f ≡ []
maximal_runs-empty s m f is = ap (λ e. maximal_runs s e f) is ∙ maximal_runs-none s f

pub walked-start : (runs : List Range) (start end next at : ℕ) (run : Range) → AreRuns start end runs → next ≡ 0 → at ≡ start → run.end ≡ start → Walked runs end next at run
walked-start runs start end next at run kept none here ends =
    record {
      within = omega arith;
      ahead = omega arith;
      rest = subst (λ e. AreRuns e end (drop next runs)) (sym ends) (subst (λ i. AreRuns start end (drop i runs)) (sym none) kept);
      here = λ o low high. absurd (omega arith);
      behind = λ o low. ap (λ i. count_in (drop i runs) o) (sym none);
    }

pub walked-on : (runs : List Range) (end next at reached : ℕ) (run : Range) → Walked runs end next at run → at ≤ reached → reached ≤ run.end → Walked runs end next reached run
walked-on runs end next at reached run w low high =
    record { within = w.within; ahead = high; rest = w.rest; here = λ o from to. w.here o (omega arith) to; behind = w.behind }

more-left : (runs : List Range) (i s e : ℕ) → AreRuns s e (drop i runs) → s < e → i < length runs
more-left [] zero s e kept lt = absurd (omega (arith, kept))
more-left [] (suc i) s e kept lt = absurd (omega (arith, kept))
more-left (run ∷ runs) zero s e kept lt = omega arith
more-left (run ∷ runs) (suc i) s e kept lt = omega (arith, more-left runs i s e kept lt)

pub walked-more : (runs : List Range) (end next at : ℕ) (run : Range) → Walked runs end next at run → run.end ≤ at → at < end → next < length runs
walked-more runs end next at run w past lt = more-left runs next run.end end w.rest (omega arith)

rest-cons : (runs : List Range) (i : ℕ) (run : Range) → slice_get runs i ≡ Some run → drop i runs ≡ run ∷ drop (i + 1) runs
rest-cons runs i run is =
    drop-cons runs i run (slice_get_within runs i run is) ∙ (λ j. get_or_from_slice_get runs i run run is j ∷ drop (suc i) runs)
    ∙ (let next : suc i ≡ i + 1 = omega arith in ap (λ k. run ∷ drop k runs) next)

pub walked-read : (runs : List Range) (end next at : ℕ) (run read : Range) → Walked runs end next at run → run.end ≤ at → at < end → slice_get runs next ≡ Some read
    → Walked runs end (next + 1) at read × (at < read.end)
walked-read runs end next at run read w past lt is =
    let ended : run.end ≡ at = omega (arith, w.ahead) in
    let cons = rest-cons runs next read is in
    let rest = subst (λ rs. AreRuns run.end end rs) cons w.rest in
    let begins : read.start ≡ run.end = rest.0 in
    let nonempty : run.end < read.end = rest.1 in
    let behind : (o : ℕ) → run.end ≤ o → count_in runs o ≡ count_in (read ∷ drop (next + 1) runs) o = λ o low. w.behind o low ∙ ap (λ rs. count_in rs o) cons in (
      record {
        within = omega (arith, slice_get_within runs next read is);
        ahead = omega arith;
        rest = rest.3;
        here = λ o low high. behind o (omega arith) ∙ count_in-here read (drop (next + 1) runs) o (omega arith) high;
        behind = λ o low. behind o (omega arith) ∙ count_in-behind read (drop (next + 1) runs) o low;
      },
      omega arith,
    )

-- up to the nearer end of the two runs each sum is that of their counts
pub sum_at-walked : (a b : RunList) (at next i j : ℕ) (left right : Range) (count : ℕ) → Walked a.runs a.end i at left → Walked b.runs b.end j at right
    → next ≤ left.end → next ≤ right.end → count ≡ left.count + right.count → (o : ℕ) → at ≤ o → o < next → sum_at a b o ≡ count
sum_at-walked a b at next i j left right count wa wb la lb is o low high =
    omega (arith, wa.here o low (omega arith), wb.here o low (omega arith))

pub sum-more : (a b : RunList) (at next i j : ℕ) (left right : Range) (count : ℕ) (sum new : List Range) → Walked a.runs a.end i at left → Walked b.runs b.end j at right
    → a.start ≤ at → at < next → next ≤ left.end → next ≤ right.end → count ≡ left.count + right.count
    → sum ≡ maximal_runs a.start at (sum_at a b) → new ≡ pushed sum (range at next count) → new ≡ maximal_runs a.start next (sum_at a b)
sum-more a b at next i j left right count sum new wa wb from lt la lb is had grew =
    grew ∙ ap (λ rs. pushed rs (range at next count)) had
    ∙ sym (maximal_runs-pushed a.start at next count (sum_at a b) from lt (sum_at-walked a b at next i j left right count wa wb la lb is))

pub fits-more : (a b : RunList) (at next count : ℕ) → ((o : ℕ) → a.start ≤ o → o < at → sum_at a b o ≤ limit) → ((o : ℕ) → at ≤ o → o < next → sum_at a b o ≡ count) → count ≤ limit
    → (o : ℕ) → a.start ≤ o → o < next → sum_at a b o ≤ limit
fits-more a b at next count had same fits o low high =
    elim (cases_lt o at) [
      | inl before ↦ had o low before
      | inr behind ↦ subst (λ n. n ≤ limit) (sym (same o behind high)) fits
    ]
