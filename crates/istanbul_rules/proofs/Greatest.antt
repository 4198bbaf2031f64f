-- The greatest of a list that is walked.
use Rattle.std.proofs.Common.{◌≡◌, ℕ, ◌+◌, ◌<◌, List, ◌∷◌, length, get_or, drop, sym, ap, ◌∙◌}
use Rattle.std.specs.Prelude.{Option, None, Some, max, map, fold}
use Rattle.istanbul_rules.specs.Parts.{greatest}
use Rattle.istanbul_rules.proofs.Lists.{rest_from}

-- the greatest of these and of what was found before
abbrev pub greatest_with : Option ℕ → List ℕ → Option ℕ
greatest_with None ns = greatest ns
greatest_with (Some most) ns = Some (fold max most ns)

pub first_greatest : (f : ℕ → ℕ) (places : List ℕ) (i n : ℕ) (before after total : Option ℕ) → i < length places → n ≡ f (get_or places i 0)
    → before ≡ None → after ≡ Some n → greatest_with before (map f (drop i places)) ≡ total → greatest_with after (map f (drop (i + 1) places)) ≡ total
first_greatest f places i n before after total lt is none now so_far =
    ap (λ o. greatest_with o (map f (drop (i + 1) places))) now
    ∙ ap (λ m. greatest (m ∷ map f (drop (i + 1) places))) is
    ∙ (λ k. greatest_with (sym none k) (map f (sym (rest_from places i 0 lt) k)))
    ∙ so_far

pub next_greatest : (f : ℕ → ℕ) (places : List ℕ) (i n most : ℕ) (before after total : Option ℕ) → i < length places → n ≡ f (get_or places i 0)
    → before ≡ Some most → after ≡ Some (max most n) → greatest_with before (map f (drop i places)) ≡ total → greatest_with after (map f (drop (i + 1) places)) ≡ total
next_greatest f places i n most before after total lt is some now so_far =
    ap (λ o. greatest_with o (map f (drop (i + 1) places))) now
    ∙ ap (λ m. Some (fold max (max most m) (map f (drop (i + 1) places)))) is
    ∙ (λ k. greatest_with (sym some k) (map f (sym (rest_from places i 0 lt) k)))
    ∙ so_far
