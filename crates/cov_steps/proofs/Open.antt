-- Open ranges that are closed from the last one on.
use Rattle.std.proofs.Common.{◌≡◌, ℕ, ◌<◌, ◌≤◌, Bool, true, false, List, [], ◌∷◌, ◌++◌, refl, sym, ap, ◌∙◌, arith, inl, inr}
use Rattle.std.specs.Prelude.{cond, filter, None, Some, option_map, max}
use Rattle.std.proofs.lemmas.Bool.{cases_lt, lt-ltb, le-ltb}
use Rattle.std.proofs.lemmas.List.{append-nil}
use Rattle.cov_text.specs.Listing.{last_of}
use Rattle.cov_model.specs.declared.report.Range.{Range}
use Rattle.cov_model.specs.Normal.{range, maximal_runs}
use Rattle.cov_ranges.specs.Order.{ends_behind}
use Rattle.cov_steps.specs.Walking.{pushed, last_count, open_count, Painted, pushed_between}
use Rattle.cov_steps.proofs.Maximal.{maximal_runs-pushed}

pub filter-behind : {A : Type 0} (p : A → Bool) (xs : List A) (x : A) → filter p (xs ++ x ∷ []) ≡ filter p xs ++ cond (p x) (x ∷ []) []
filter-behind p [] x = refl
filter-behind p (y ∷ xs) x =
    ap (λ tail. cond (p y) (y ∷ tail) tail) (filter-behind p xs x)
    ∙ elim (p y) as (λ b. cond b (y ∷ (filter p xs ++ cond (p x) (x ∷ []) [])) (filter p xs ++ cond (p x) (x ∷ []) []) ≡ cond b (y ∷ filter p xs) (filter p xs) ++ cond (p x) (x ∷ []) []) [
      | true ↦ refl
      | false ↦ refl
    ]

last-behind : {A : Type 0} (xs : List A) (x : A) → last_of (xs ++ x ∷ []) ≡ Some x
last-behind [] x = refl
last-behind (y ∷ []) x = refl
last-behind (y ∷ z ∷ xs) x = last-behind (z ∷ xs) x

-- the last of those that pass, with one more behind them
pub last_count-behind : (p : Range → Bool) (rs : List Range) (r : Range) → last_count (filter p (rs ++ r ∷ [])) ≡ cond (p r) (Some r.count) (last_count (filter p rs))
last_count-behind p rs r =
    ap last_count (filter-behind p rs r)
    ∙ elim (p r) as (λ b. last_count (filter p rs ++ cond b (r ∷ []) []) ≡ cond b (Some r.count) (last_count (filter p rs))) [
      | true ↦ ap (option_map (λ x. x.count)) (last-behind (filter p rs) r)
      | false ↦ ap last_count (append-nil (filter p rs))
    ]

pub open-top : (rs : List Range) (top : Range) (o : ℕ) → o < top.end → open_count (rs ++ top ∷ []) o ≡ Some top.count
open-top rs top o lt = last_count-behind (ends_behind o) rs top ∙ ap (λ b. cond b (Some top.count) (open_count rs o)) (lt-ltb o top.end lt)

pub open-closed : (rs : List Range) (top : Range) (o : ℕ) → top.end ≤ o → open_count (rs ++ top ∷ []) o ≡ open_count rs o
open-closed rs top o le = last_count-behind (ends_behind o) rs top ∙ ap (λ b. cond b (Some top.count) (open_count rs o)) (le-ltb o top.end le)

some-same : {A : Type 0} (a b : A) → Some a ≡ Some b → a ≡ b
some-same a b e = cc

-- the runs go on up to where the last open range ends, or no further than to
pub painted-done : (f : ℕ → ℕ) (start at to m end : ℕ) (rs runs new : List Range) (top : Range) → Painted f start at to (rs ++ top ∷ []) runs
    → end ≤ top.end → end ≤ to → m ≡ max at end → new ≡ pushed_between runs at end top.count → new ≡ maximal_runs start m f
painted-done f start at to m end rs runs new top p low high is grew =
    elim (cases_lt at end) [
      | inl lt ↦
          let there : end ≡ m = omega arith in
          grew ∙ ap (λ b. cond b (pushed runs (range at end top.count)) runs) (lt-ltb at end lt) ∙ ap (λ rs. pushed rs (range at end top.count)) p.done
          ∙ sym (maximal_runs-pushed start at end top.count f p.from lt (λ o from before. some-same (f o) top.count (sym (p.counts o from (omega arith)) ∙ open-top rs top o (omega arith))))
          ∙ ap (λ e. maximal_runs start e f) there
      | inr le ↦
          let there : at ≡ m = omega arith in
          grew ∙ ap (λ b. cond b (pushed runs (range at end top.count)) runs) (le-ltb at end le) ∙ p.done ∙ ap (λ e. maximal_runs start e f) there
    ]

-- the last open range is closed
pub painted-closed : (f : ℕ → ℕ) (start at to m end : ℕ) (rs runs new : List Range) (top : Range) → Painted f start at to (rs ++ top ∷ []) runs
    → end ≡ top.end → end ≤ to → m ≡ max at end → new ≡ pushed_between runs at end top.count → Painted f start m to rs new
painted-closed f start at to m end rs runs new top p ends high is grew =
    record {
      from = omega (arith, p.from);
      done = painted-done f start at to m end rs runs new top p (omega arith) high is grew;
      counts = λ o low before. sym (open-closed rs top o (omega arith)) ∙ p.counts o (omega arith) before;
    }

-- where no range is open any more, the runs have come to the end
pub painted-none : (f : ℕ → ℕ) (start at to : ℕ) (runs : List Range) → Painted f start at to [] runs → at ≤ to → runs ≡ maximal_runs start to f
painted-none f start at to runs p le =
    elim (cases_lt at to) [
      | inl lt ↦ absurd (let e : None ≡ Some (f at) = p.counts at (omega arith) lt in cc)
      | inr over ↦ let there : at ≡ to = omega arith in p.done ∙ ap (λ e. maximal_runs start e f) there
    ]
