-- The first fault is that of the least place that has one.
use Rattle.std.proofs.Common.{◌≡◌, ℕ, zero, suc, ◌+◌, ◌<◌, List, [], ◌∷◌, ◌++◌, refl, sym, ap, ◌∙◌, arith, length, take, length-append}
use Rattle.std.specs.Prelude.{Option, None, Some, get_or}
use Rattle.std.proofs.lemmas.List.{append-nil}
use Rattle.cov_model.specs.declared.report.Range.{Range}
use Rattle.cov_model.specs.declared.report.RangeFault.{RangeFault}
use Rattle.cov_model.specs.Nesting.{fault_at, fault_from, range_fault, or_else}
use Rattle.cov_ranges.specs.Laws.{FirstFaultIsLeast}

-- the fault of the range at a place behind those that came earlier
abbrev fault_behind : Range → List Range → List Range → ℕ → Option RangeFault
fault_behind root earlier rest place = fault_at root (earlier ++ take place rest) (length earlier + place) (get_or rest place root)

record Least (root : Range) (earlier rest : List Range) (fault : RangeFault) : Type 0 where
  place : ℕ
  within : place < length rest
  here : fault_behind root earlier rest place ≡ Some fault
  before : (other : ℕ) → other < place → fault_behind root earlier rest other ≡ None

at-first : (root : Range) (earlier : List Range) (r : Range) (rest : List Range) → fault_behind root earlier (r ∷ rest) zero ≡ fault_at root earlier (length earlier) r
at-first root earlier r rest =
    let same = append-nil earlier in
    let count : length earlier + 0 ≡ length earlier = omega arith in
    (λ i. fault_at root (same i) (count i) r)

at-next : (root : Range) (earlier : List Range) (r : Range) (rest : List Range) (place : ℕ) → fault_behind root earlier (r ∷ rest) (suc place) ≡ fault_behind root (earlier ++ r ∷ []) rest place
at-next root earlier r rest place =
    let same : earlier ++ (r ∷ take place rest) ≡ (earlier ++ r ∷ []) ++ take place rest = sym (joined earlier) in
    let count : length earlier + suc place ≡ length (earlier ++ r ∷ []) + place = omega (arith, length-append earlier (r ∷ [])) in
    (λ i. fault_at root (same i) (count i) (get_or rest place root))
  where
    joined : (xs : List Range) → (xs ++ r ∷ []) ++ take place rest ≡ xs ++ (r ∷ take place rest)
    joined [] = refl
    joined (x ∷ xs) = ap (λ ys. x ∷ ys) (joined xs)

least : (root : Range) (rest earlier : List Range) (fault : RangeFault) → fault_from root earlier rest ≡ Some fault → Least root earlier rest fault
least root [] earlier fault e = absurd cc
least root (r ∷ rest) earlier fault e = by (fault_at root earlier (length earlier) r) refl e (least root rest (earlier ++ r ∷ []) fault)
  where
    by : (found : Option RangeFault) → fault_at root earlier (length earlier) r ≡ found → or_else found (fault_from root (earlier ++ r ∷ []) rest) ≡ Some fault
        → (fault_from root (earlier ++ r ∷ []) rest ≡ Some fault → Least root (earlier ++ r ∷ []) rest fault) → Least root earlier (r ∷ rest) fault
    by (Some x) is e more = record { place = zero; within = omega arith; here = at-first root earlier r rest ∙ is ∙ e; before = λ other lt. absurd (omega arith) }
    by None is e more =
        let found = more e in
        record {
          place = suc found.place;
          within = omega (arith, found.within);
          here = at-next root earlier r rest found.place ∙ found.here;
          before = λ other lt. before found.place found.before other lt;
        }
      where
        before : (place : ℕ) → ((other : ℕ) → other < place → fault_behind root (earlier ++ r ∷ []) rest other ≡ None)
            → (other : ℕ) → other < suc place → fault_behind root earlier (r ∷ rest) other ≡ None
        before place none zero lt = at-first root earlier r rest ∙ is
        before place none (suc other) lt = at-next root earlier r rest other ∙ none other (omega arith)

pub first_fault_is_least : FirstFaultIsLeast
unfolding range_fault
first_fault_is_least root rest fault e =
    let found = least root (root ∷ rest) [] fault e in
    record {
      place = found.place;
      within = found.within;
      here = counted found.place ∙ found.here;
      before = λ other lt. counted other ∙ found.before other lt;
    }
  where
    counted : (place : ℕ) → fault_at root (take place (root ∷ rest)) place (get_or (root ∷ rest) place root) ≡ fault_behind root [] (root ∷ rest) place
    counted place = let count : place ≡ 0 + place = omega arith in (λ i. fault_at root (take place (root ∷ rest)) (count i) (get_or (root ∷ rest) place root))
