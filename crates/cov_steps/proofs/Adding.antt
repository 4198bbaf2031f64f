-- The laws of runs and their sums.
use Rattle.std.proofs.Common.{◌≡◌, ℕ, ◌+◌, ◌<◌, ◌≤◌, refl, sym, ap, ◌∙◌, subst, arith}
use Rattle.cov_model.specs.Normal.{maximal_runs}
use Rattle.cov_text.specs.Listing.{limit}
use Rattle.cov_steps.specs.Runs.{RunList, count_in, sum_at, sum_of, Fits}
use Rattle.cov_steps.specs.Laws.{CountsDetermineRuns, SumsCount, SumsCommute, SumsAssociate}
use Rattle.cov_steps.proofs.Maximal.{maximal_runs-counts, maximal_runs-same, AreRuns-maximal, count_in-maximal}

pub counts_determine_runs : CountsDetermineRuns
counts_determine_runs start end a b ra rb same = sym (maximal_runs-counts start end a (count_in b) ra (λ o low high. sym (same o low high))) ∙ maximal_runs-counts start end b (count_in b) rb (λ o low high. refl)

pub sums_count : SumsCount
sums_count a b le = (AreRuns-maximal a.start a.end (sum_at a b) le, λ o low high. count_in-maximal a.start a.end o (sum_at a b) low high)

at-most : (m n k : ℕ) → m ≤ n → n ≤ k → m ≤ k
at-most m n k h i = omega arith

swapped : (a b : RunList) → a.start ≡ b.start → a.end ≡ b.end → Fits a b → Fits b a
swapped a b starts ends h o low high =
    let same : sum_at a b o ≡ sum_at b a o = omega arith in
    let from : a.start ≤ o = omega (arith, starts) in
    let to : o < a.end = omega (arith, ends) in
    subst (λ n. n ≤ limit) same (h o from to)

pub sums_commute : SumsCommute
sums_commute a b starts ends =
    let same : (o : ℕ) → a.start ≤ o → o < a.end → sum_at a b o ≡ sum_at b a o = λ o low high. omega arith in
    let runs : maximal_runs a.start a.end (sum_at a b) ≡ maximal_runs b.start b.end (sum_at b a) =
    maximal_runs-same a.start a.end (sum_at a b) (sum_at b a) same ∙ (λ i. maximal_runs (starts i) (ends i) (sum_at b a)) in
    ((λ i. record { start = starts i; end = ends i; runs = runs i }), (swapped a b starts ends, swapped b a (sym starts) (sym ends)))

-- the counts of a sum, at an offset of its root
counts-sum : (a b : RunList) (o : ℕ) → a.start ≤ o → o < a.end → count_in (sum_of a b).runs o ≡ sum_at a b o
counts-sum a b o low high = count_in-maximal a.start a.end o (sum_at a b) low high

grouped : (a b c : RunList) → a.start ≡ b.start → a.end ≡ b.end → (o : ℕ) → a.start ≤ o → o < a.end → sum_at (sum_of a b) c o ≡ sum_at a (sum_of b c) o
grouped a b c starts ends o low high =
    let left = counts-sum a b o low high in
    let right = counts-sum b c o (omega (arith, starts)) (omega (arith, ends)) in
    ap (λ n. n + count_in c.runs o) left ∙ (let same : (count_in a.runs o + count_in b.runs o) + count_in c.runs o ≡ count_in a.runs o + (count_in b.runs o + count_in c.runs o) = omega arith in same) ∙ ap (λ n. count_in a.runs o + n) (sym right)

-- the sum of two is no more than that of three
part-front : (a b c : RunList) (o : ℕ) → a.start ≤ o → o < a.end → sum_at a b o ≤ sum_at (sum_of a b) c o
part-front a b c o low high = omega (arith, counts-sum a b o low high)

part-back : (a b c : RunList) (o : ℕ) → b.start ≤ o → o < b.end → sum_at b c o ≤ sum_at a (sum_of b c) o
part-back a b c o low high = omega (arith, counts-sum b c o low high)

pub sums_associate : SumsAssociate
sums_associate a b c starts more ends further =
    let same = grouped a b c starts ends in
    let runs : maximal_runs a.start a.end (sum_at (sum_of a b) c) ≡ maximal_runs a.start a.end (sum_at a (sum_of b c)) =
    maximal_runs-same a.start a.end (sum_at (sum_of a b) c) (sum_at a (sum_of b c)) same in (
      (λ i. record { start = a.start; end = a.end; runs = runs i }),
      (
        (λ h.
            let all : Fits a (sum_of b c) = λ o low high. subst (λ n. n ≤ limit) (same o low high) (h.1 o low high) in (
              (λ o low high. at-most (sum_at b c o) (sum_at a (sum_of b c) o) limit (part-back a b c o low high) (all o (omega (arith, starts)) (omega (arith, ends)))),
              all,
            )),
        (λ h.
            let all : Fits (sum_of a b) c = λ o low high. subst (λ n. n ≤ limit) (sym (same o low high)) (h.1 o low high) in
            ((λ o low high. at-most (sum_at a b o) (sum_at (sum_of a b) c o) limit (part-front a b c o low high) (all o low high)), all)),
      ),
    )
