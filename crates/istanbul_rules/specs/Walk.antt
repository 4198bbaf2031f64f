-- What one walk over the lines knows before each of them.
use Rattle.std.specs.Prelude.{◌≡◌, ℕ, suc, max, ◌≤◌, Bool, List, length, nat_lt, fold}
use Rattle.std.specs.List.{list_any}
use Rattle.cov_text.specs.Listing.{offsets}
use Rattle.istanbul_rules.specs.Ignored.{nexts, is_stopped_until, is_next}

-- how many lines the line's next comments cover, itself among them, and 0 where it has none
abbrev pub covered : List ℕ → ℕ
covered line = fold (λ a n. max a (suc n)) 0 (nexts line)

-- behind these lines a start comment holds that no stop comment ended
abbrev pub is_open : List (List ℕ) → Bool
is_open lines = list_any (is_stopped_until lines (length lines)) (offsets 0 (length lines))

-- the next comments of these lines reach up to but without line `end`
abbrev pub Reaches : List (List ℕ) → ℕ → Type 0
Reaches lines end = (i : ℕ) → length lines ≤ i → nat_lt i end ≡ list_any (is_next lines i) (offsets 0 (length lines))
