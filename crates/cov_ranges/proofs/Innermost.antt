-- The range kept while a list is gone through is the innermost one.
use Rattle.std.proofs.Common.{◌≡◌, ℕ, ◌<◌, ◌≤◌, Bool, true, false, ◌&&◌, List, [], ◌∷◌, refl, sym, ap, ◌∙◌, arith, inl, inr}
use Rattle.std.proofs.Math.Bool.{and-false}
use Rattle.std.specs.Prelude.{Option, None, Some, nat_le, nat_lt, if◌then◌else◌, cond, filter}
use Rattle.std.specs.List.{list_all}
use Rattle.std.proofs.lemmas.Bool.{cases_lt, cases_Bool, lt-ltb, le-ltb, lt-leb, le-leb, leb-true}
use Rattle.cov_model.specs.declared.report.Range.{Range}
use Rattle.cov_text.specs.Listing.{last_of}
use Rattle.cov_model.specs.Nesting.{size, has_offset, is_shortest, innermost}
use Rattle.cov_ranges.specs.Scan.{shorter_of}

-- what is kept of a list, from the best so far
abbrev pub scanned : Option Range → List Range → Option Range
scanned best [] = best
scanned best (r ∷ rest) = scanned (shorter_of best r) rest

-- the same, of those that have the offset
abbrev pub kept : ℕ → Option Range → List Range → Option Range
kept o best [] = best
kept o best (r ∷ rest) = kept o (if has_offset o r then shorter_of best r else best) rest

pub kept-scanned : (o : ℕ) (best : Option Range) (rs : List Range) → kept o best rs ≡ scanned best (filter (has_offset o) rs)
kept-scanned o best [] = refl
kept-scanned o best (r ∷ rest) =
    elim (has_offset o r) as (λ b. kept o (cond b (shorter_of best r) best) rest ≡ scanned best (cond b (r ∷ filter (has_offset o) rest) (filter (has_offset o) rest))) [
      | true ↦ kept-scanned o (shorter_of best r) rest
      | false ↦ kept-scanned o best rest
    ]

-- a bound that follows from another needs no test
left_bound : (m n k : ℕ) (r : Bool) → n < k → (nat_le m n && (nat_le m k && r)) ≡ (nat_le m n && r)
left_bound m n k r lt =
    elim (cases_Bool (nat_le m n)) [
      | inl e ↦ let le : m ≤ k = omega (arith, leb-true m n e) in λ i. nat_le m n && (le-leb m k le i && r)
      | inr e ↦ (λ i. e i && (nat_le m k && r)) ∙ sym (λ i. e i && r)
    ]

right_bound : (m n k : ℕ) (r : Bool) → k ≤ n → (nat_le m n && (nat_le m k && r)) ≡ (nat_le m k && r)
right_bound m n k r le =
    elim (cases_Bool (nat_le m k)) [
      | inl e ↦ let h : m ≤ n = omega (arith, leb-true m k e) in λ i. le-leb m n h i && (nat_le m k && r)
      | inr e ↦ (λ i. nat_le m n && (e i && r)) ∙ and-false (nat_le m n) ∙ sym (λ i. e i && r)
    ]

-- the shortest of some, and the last of them
abbrev best_of : List Range → Option Range
best_of rs = last_of (filter (is_shortest rs) rs)

-- a longer one than the first counts for nothing
drops_longer : (b r : Range) (rest : List Range) → size b < size r → best_of (b ∷ r ∷ rest) ≡ best_of (b ∷ rest)
drops_longer b r rest lt =
    let q = is_shortest (b ∷ rest) in
    let same : (y : Range) → is_shortest (b ∷ r ∷ rest) y ≡ q y = λ y. left_bound (size y) (size b) (size r) (list_all (λ other. nat_le (size y) (size other)) rest) lt in
    let longer : q r ≡ false = λ i. lt-leb (size r) (size b) lt i && list_all (λ other. nat_le (size r) (size other)) rest in
    let tail = filter q rest in
    ap last_of ((λ i. filter (λ y. same y i) (b ∷ r ∷ rest)) ∙ ap (λ t. cond (q b) (b ∷ cond t (r ∷ tail) tail) (cond t (r ∷ tail) tail)) longer)

last_behind : (t : Bool) (b : Range) (rs : List Range) (x : Range) → last_of rs ≡ Some x → last_of (cond t (b ∷ rs) rs) ≡ last_of rs
last_behind false b rs x e = refl
last_behind true b [] x e = cc
last_behind true b (r ∷ rs) x e = refl

-- one that is no shorter than the second counts for nothing
drops_first : (b r : Range) (rest : List Range) (x : Range) → size r ≤ size b → best_of (r ∷ rest) ≡ Some x → best_of (b ∷ r ∷ rest) ≡ best_of (r ∷ rest)
drops_first b r rest x le found =
    let q = is_shortest (r ∷ rest) in
    let same : (y : Range) → is_shortest (b ∷ r ∷ rest) y ≡ q y = λ y. right_bound (size y) (size b) (size r) (list_all (λ other. nat_le (size y) (size other)) rest) le in
    ap last_of (λ i. filter (λ y. same y i) (b ∷ r ∷ rest)) ∙ last_behind (q b) b (filter q (r ∷ rest)) x found

pub scanned-Some : (b : Range) (rs : List Range) → (x : Range) × (scanned (Some b) rs ≡ Some x)
scanned-Some b [] = (b, refl)
scanned-Some b (r ∷ rest) =
    elim (nat_lt (size b) (size r)) as (λ t. (x : Range) × (scanned (cond t (Some b) (Some r)) rest ≡ Some x)) [
      | true ↦ scanned-Some b rest
      | false ↦ scanned-Some r rest
    ]

pub scanned-best : (b : Range) (rs : List Range) → scanned (Some b) rs ≡ best_of (b ∷ rs)
scanned-best b [] = let le : size b ≤ size b = omega arith in sym (λ i. last_of (cond (le-leb (size b) (size b) le i && true) (b ∷ []) []))
scanned-best b (r ∷ rest) =
    elim (cases_lt (size b) (size r)) [
      | inl lt ↦ ap (λ t. scanned (cond t (Some b) (Some r)) rest) (lt-ltb (size b) (size r) lt) ∙ scanned-best b rest ∙ sym (drops_longer b r rest lt)
      | inr le ↦
          let again = scanned-best r rest in
          let some = scanned-Some r rest in
          ap (λ t. scanned (cond t (Some b) (Some r)) rest) (le-ltb (size b) (size r) le) ∙ again ∙ sym (drops_first b r rest some.0 le (sym again ∙ some.1))
    ]

pub scanned-innermost : (rs : List Range) → scanned None rs ≡ best_of rs
scanned-innermost [] = refl
scanned-innermost (r ∷ rest) = scanned-best r rest

pub kept-innermost : (o : ℕ) (rs : List Range) → kept o None rs ≡ innermost rs o
kept-innermost o rs = kept-scanned o None rs ∙ scanned-innermost (filter (has_offset o) rs)
