-- Sums within the limit.
use Rattle.std.proofs.Common.{◌≡◌, ℕ, ◌+◌, ◌<◌, ◌≤◌, Bool, true, false, List, [], ◌∷◌, sym, subst, arith}
use Rattle.std.specs.Prelude.{option_map, unwrap_or, cond, filter}
use Rattle.std.specs.List.{AllByRecursion}
use Rattle.std.specs.declared.cmp.Ordering.TheVariants.{Less, Equal, Greater}
use Rattle.std.specs.Ordering.{match_ordering}
use Rattle.std.specs.BTreeMap.{insert_entry}
use Rattle.cov_model.specs.declared.report.Range.{Range}
use Rattle.cov_model.specs.declared.sums.Key.{Key}
use Rattle.cov_text.specs.Listing.{last_of}
use Rattle.cov_model.specs.Nesting.{inner, inner_count, around, is_shortest}
use Rattle.cov_text.specs.Listing.{limit}
use Rattle.cov_model.specs.Sums.{file_order}
use Rattle.cov_steps.specs.Runs.{RunList, count_in, counted, sum_of, sum_at, Fits, IsFirstPast}
use Rattle.cov_steps.proofs.Maximal.{count_in-maximal}
use Rattle.cov_book.specs.declared.sums.Sums.{Sums}
use Rattle.cov_book.specs.Prepared.{sum_two, IsWithin, AreWithin}

-- ---- the counts of a report

kept : (P : Range → Type 0) (p : Range → Bool) (rs : List Range) → AllByRecursion P rs → AllByRecursion P (filter p rs)
kept P p [] h = tt
kept P p (r ∷ rs) h = elim (p r) as (λ b. AllByRecursion P (cond b (r ∷ filter p rs) (filter p rs))) [
  | true ↦ (h.0, kept P p rs h.1)
  | false ↦ kept P p rs h.1
]

last-small : (rs : List Range) → AllByRecursion (λ (r : Range). r.count ≤ limit) rs → unwrap_or (option_map (λ (r : Range). r.count) (last_of rs)) 0 ≤ limit
last-small [] h = omega arith
last-small (r ∷ []) h = h.0
last-small (r ∷ s ∷ rs) h = last-small (s ∷ rs) h.1

inner-small : (rs : List Range) (o : ℕ) → AllByRecursion (λ (r : Range). r.count ≤ limit) rs → inner_count rs o ≤ limit
unfolding inner
inner-small rs o h =
    let P : Range → Type 0 = λ r. r.count ≤ limit in
    last-small (filter (is_shortest (around rs o)) (around rs o)) (kept P (is_shortest (around rs o)) (around rs o) (kept P _ rs h))

pub counted-small : (rs : List Range) → AllByRecursion (λ (r : Range). r.count ≤ limit) rs
    → (o : ℕ) → (counted rs).start ≤ o → o < (counted rs).end → count_in (counted rs).runs o ≤ limit
counted-small [] h o low high = omega arith
counted-small (r ∷ rs) h o low high =
    subst (λ n. n ≤ limit) (sym (count_in-maximal r.start r.end o (inner_count (r ∷ rs)) low high)) (inner-small (r ∷ rs) o h)

-- ---- the sums of two

sum-count : (a b : RunList) (o : ℕ) → a.start ≤ o → o < a.end → count_in (sum_of a b).runs o ≡ sum_at a b o
sum-count a b o low high = count_in-maximal a.start a.end o (sum_at a b) low high

pub fits-within : (a b : Sums) → a.root + b.root ≤ limit → Fits a.runs b.runs → IsWithin (sum_two a b)
fits-within a b root fits = (root, λ o low high. subst (λ n. n ≤ limit) (sym (sum-count a.runs b.runs o low high)) (fits o low high))

pub past-root : (a b : Sums) → limit < a.root + b.root → IsWithin (sum_two a b) → ⊥
past-root a b past h = let small = h.0 in omega arith

pub past-offset : (a b : Sums) (offset held added : ℕ) → IsFirstPast a.runs b.runs offset held added → IsWithin (sum_two a b) → ⊥
past-offset a b offset held added first h =
    let small = h.1 offset first.from first.to in
    let is = sum-count a.runs b.runs offset first.from first.to in
    omega (arith, first.past)

pub held-within : (a b : Sums) → IsWithin (sum_two a b) → IsWithin a
held-within a b h = (
  omega (arith, h.0),
  λ o low high.
      let small = h.1 o low high in
      let is = sum-count a.runs b.runs o low high in
      omega arith,
)

-- ---- with reports

pub within-insert : (known : List (Key × Sums)) (k : Key) (v : Sums) → AreWithin known → IsWithin v → AreWithin (insert_entry file_order known k v)
within-insert [] k v h new = (new, tt)
within-insert (e ∷ es) k v h new =
    let rest = within-insert es k v h.1 new in
    elim (file_order k e.0) as (λ o. AreWithin (match_ordering o ((k, v) ∷ e ∷ es) ((e.0, v) ∷ es) (e ∷ insert_entry file_order es k v))) [
      | Less ↦ (new, h)
      | Equal ↦ (new, h.1)
      | Greater ↦ (h.0, rest)
    ]
