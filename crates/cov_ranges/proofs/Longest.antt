-- The first fault of a list is that of the range behind the longest front that has none.
use Rattle.std.proofs.Common.{◌≡◌, ℕ, zero, suc, ◌+◌, ◌<◌, ◌≤◌, Bool, true, false, List, [], ◌∷◌, ◌++◌, refl, sym, ap, ◌∙◌, arith, inl, inr, length, take, drop, get_or, append_assoc}
use Rattle.std.proofs.Math.Bool.{and-true, and-false}
use Rattle.std.specs.Prelude.{Option, None, Some, ◌&&◌, is_none}
use Rattle.std.specs.List.{list_all}
use Rattle.std.proofs.lemmas.Bool.{cases_lt, and_parts, and_from}
use Rattle.std.proofs.lemmas.List.Folds.{list_all_more}
use Rattle.std.proofs.lemmas.List.{append-nil, take-append-drop, drop_more, take_more, take-take, take_all, length-take-le}
use Rattle.cov_model.specs.declared.report.Range.{Range}
use Rattle.cov_model.specs.Nesting.{fault_at, fault_from, or_else}
use Rattle.cov_ranges.specs.Front.{sound, are_sound, are_apart, IsLongestFront}
use Rattle.cov_ranges.proofs.Nested.{fault_from-None, none-from}

-- ---- the first fault of two lists, one behind the other

or_else-regroup : {A : Type 0} (a b c : Option A) → or_else a (or_else b c) ≡ or_else (or_else a b) c
or_else-regroup (Some x) b c = refl
or_else-regroup None b c = refl

or_else-first : {A : Type 0} (a b : Option A) → is_none (or_else a None) ≡ false → or_else a b ≡ a
or_else-first (Some x) b e = refl
or_else-first None b e = absurd cc

fault-append : (root : Range) (xs ys earlier : List Range) → fault_from root earlier (xs ++ ys) ≡ or_else (fault_from root earlier xs) (fault_from root (earlier ++ xs) ys)
fault-append root [] ys earlier = ap (λ e. fault_from root e ys) (sym (append-nil earlier))
fault-append root (x ∷ xs) ys earlier =
    ap (λ o. or_else (fault_at root earlier (length earlier) x) o) (fault-append root xs ys (earlier ++ x ∷ []))
    ∙ ap (λ e. or_else (fault_at root earlier (length earlier) x) (or_else (fault_from root (earlier ++ x ∷ []) xs) (fault_from root e ys))) (append_assoc earlier (x ∷ []) xs)
    ∙ or_else-regroup (fault_at root earlier (length earlier) x) (fault_from root (earlier ++ x ∷ []) xs) (fault_from root (earlier ++ x ∷ xs) ys)

-- ---- fronts

faultless : (root : Range) (xs : List Range) → is_none (fault_from root [] xs) ≡ (are_sound root xs && are_apart xs)
faultless root xs = fault_from-None root xs [] ∙ ap (λ b. are_sound root xs && b) (and-true (are_apart xs))

all-taken : {A : Type 0} (p : A → Bool) (n : ℕ) (xs : List A) → list_all p xs ≡ true → list_all p (take n xs) ≡ true
all-taken p zero xs e = refl
all-taken p (suc n) [] e = refl
all-taken p (suc n) (x ∷ xs) e =
    let both = and_parts (p x) (list_all p xs) e in
    and_from (p x) (list_all p (take n xs)) both.0 (all-taken p n xs both.1)

-- the first that isn't sound ends the longest front
pub sound-stops : (root : Range) (ranges : List Range) (k : ℕ) (d : Range) → k < length ranges → are_sound root (take k ranges) ≡ true → false ≡ sound root (get_or ranges k d)
    → IsLongestFront (are_sound root) ranges k
sound-stops root ranges k d lt e f =
    let next : suc k ≡ k + 1 = omega arith in
    record {
      within = omega arith;
      front = e;
      behind = λ more. ap (λ n. are_sound root (take n ranges)) next ∙ list_all_more (sound root) ranges k d lt ∙ ap (λ b. b && sound root (get_or ranges k d)) e ∙ sym f;
    }

-- How far the ranges are sound, and how far those are apart.
pub record Fronts (root : Range) (ranges : List Range) (firm count : ℕ) : Type 0 where
  pub firmly : IsLongestFront (are_sound root) ranges firm
  pub freely : IsLongestFront are_apart (take firm ranges) count

not-above : (root : Range) (ranges : List Range) (firm count : ℕ) → Fronts root ranges firm count → count ≤ firm
not-above root ranges firm count f = let same = length-take-le firm ranges f.firmly.within in let most = f.freely.within in omega arith

none-in-front : (root : Range) (ranges : List Range) (firm count : ℕ) → Fronts root ranges firm count → fault_from root [] (take count ranges) ≡ None
none-in-front root ranges firm count f =
    let less = not-above root ranges firm count f in
    let cut = take-take count firm ranges less in
    none-from (fault_from root [] (take count ranges))
    (faultless root (take count ranges)
    ∙ and_from (are_sound root (take count ranges)) (are_apart (take count ranges))
    (ap (λ l. are_sound root l) (sym cut) ∙ all-taken (sound root) count (take firm ranges) f.firmly.front)
    (ap (λ l. are_apart l) (sym cut) ∙ f.freely.front))

one-behind : (root : Range) (ranges : List Range) (firm count : ℕ) → Fronts root ranges firm count → count < length ranges → is_none (fault_from root [] (take (suc count) ranges)) ≡ false
one-behind root ranges firm count f lt =
    let less = not-above root ranges firm count f in
    let same = length-take-le firm ranges f.firmly.within in
    faultless root (take (suc count) ranges)
    ∙ elim (cases_lt count firm) [
      | inl below ↦
          let in_front : count < length (take firm ranges) = omega arith in
          let next : suc count ≤ firm = omega arith in
          ap (λ b. are_sound root (take (suc count) ranges) && b) (ap (λ l. are_apart l) (sym (take-take (suc count) firm ranges next)) ∙ f.freely.behind in_front)
          ∙ and-false (are_sound root (take (suc count) ranges))
      | inr above ↦
          let is : firm ≡ count = omega arith in
          let in_list : firm < length ranges = omega arith in
          ap (λ b. b && are_apart (take (suc count) ranges)) (ap (λ n. are_sound root (take (suc n) ranges)) (sym is) ∙ f.firmly.behind in_list)
    ]

-- ---- the first fault

pub fault-behind : (root : Range) (ranges : List Range) (firm count : ℕ) (d : Range) → Fronts root ranges firm count → count < length ranges
    → fault_at root (take count ranges) (length (take count ranges)) (get_or ranges count d) ≡ fault_from root [] ranges
fault-behind root ranges firm count d f lt =
    let front = take count ranges in
    let r = get_or ranges count d in
    let fault = fault_at root front (length front) r in
    let rest = drop (count + 1) ranges in
    let none = none-in-front root ranges firm count f in
    let next : suc count ≡ count + 1 = omega arith in
    let longer : take (suc count) ranges ≡ front ++ r ∷ [] = ap (λ n. take n ranges) next ∙ take_more ranges count d lt in
    let whole : ranges ≡ front ++ r ∷ rest = sym (take-append-drop count ranges) ∙ ap (λ l. front ++ l) (drop_more ranges count d lt) in
    let found : is_none (or_else fault None) ≡ false =
    ap is_none (sym (ap (λ l. fault_from root [] l) longer ∙ fault-append root front (r ∷ []) [] ∙ ap (λ o. or_else o (fault_from root front (r ∷ []))) none))
    ∙ one-behind root ranges firm count f lt in
    sym (ap (λ l. fault_from root [] l) whole ∙ fault-append root front (r ∷ rest) [] ∙ ap (λ o. or_else o (fault_from root front (r ∷ rest))) none
    ∙ or_else-first fault (fault_from root (front ++ r ∷ []) rest) found)

pub no-fault-behind : (root : Range) (ranges : List Range) (firm count : ℕ) → Fronts root ranges firm count → length ranges ≤ count → None ≡ fault_from root [] ranges
no-fault-behind root ranges firm count f most =
    sym (ap (λ l. fault_from root [] l) (sym (take_all count ranges most)) ∙ none-in-front root ranges firm count f)

-- ---- a front of two halves

-- a list that passes is its own longest front
pub whole-front : (test : List Range → Bool) (ranges : List Range) → true ≡ test ranges → IsLongestFront test ranges (length ranges)
whole-front test ranges e =
    let self : length ranges ≤ length ranges = omega arith in
    record {
      within = self;
      front = ap test (take_all (length ranges) ranges self) ∙ sym e;
      behind = λ lt. absurd (omega arith);
    }

-- so many pass, and so many more don't
pub record Halves (test : List Range → Bool) (ranges : List Range) (low high : ℕ) : Type 0 where
  pub lower : low < high
  pub within : high ≤ length ranges
  pub front : test (take low ranges) ≡ true
  pub behind : test (take high ranges) ≡ false

pub halves-start : (ranges : List Range) → false ≡ are_apart ranges → Halves are_apart ranges 0 (length ranges)
halves-start [] e = absurd cc
halves-start (r ∷ ranges) e =
    let self : length (r ∷ ranges) ≤ length (r ∷ ranges) = omega arith in
    record {
      lower = omega arith;
      within = self;
      front = refl;
      behind = ap are_apart (take_all (length (r ∷ ranges)) (r ∷ ranges) self) ∙ sym e;
    }

pub halves-meet : (test : List Range → Bool) (ranges : List Range) (low high : ℕ) → Halves test ranges low high → high ≤ low + 1 → IsLongestFront test ranges low
halves-meet test ranges low high h meet =
    let next : high ≡ suc low = omega (arith, h.lower) in
    record {
      within = omega (arith, h.lower, h.within);
      front = h.front;
      behind = λ lt. ap (λ n. test (take n ranges)) (sym next) ∙ h.behind;
    }
