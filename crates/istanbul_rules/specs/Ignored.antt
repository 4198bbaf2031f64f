-- The lines that comments leave out.
use Rattle.std.specs.Prelude.{ℕ, suc, ◌+◌, ◌-◌, ◌*◌, Bool, false, not, ◌&&◌, ◌||◌, List, [], ◌∷◌, length, map, drop, nat_le, if◌then◌else◌, Option, None, Some, option_map, unwrap_or, codes, filter_map, fold, slice_get}
use Rattle.std.specs.List.{list_any, between, prefix_len}
use Rattle.std.specs.Char.{is_ascii_digit}
use Rattle.std.specs.Str.Lines.{lines}
use Rattle.cov_text.specs.Listing.{begins_with, offsets}

-- a text from each of its places on
abbrev pub tails : List ℕ → List (List ℕ)
tails [] = [] ∷ []
tails (b ∷ bytes) = (b ∷ bytes) ∷ tails bytes

-- the line contains the comment
abbrev pub contains : List ℕ → List ℕ → Bool
contains comment line = list_any (begins_with comment) (tails line)

abbrev pub has_start : List ℕ → Bool
has_start line = contains (codes "/* c8 ignore start */") line

abbrev pub has_stop : List ℕ → Bool
has_stop line = contains (codes "/* c8 ignore stop */") line

-- the number that decimal digits spell
abbrev pub spelt : List ℕ → ℕ
spelt digits = fold (λ n d. 10 * n + (d - 48)) 0 digits

-- N, where one to nine digits and then ` */` stand here
abbrev pub number_before_end : List ℕ → Option ℕ
number_before_end bytes =
    let n = prefix_len is_ascii_digit bytes in
    if nat_le 1 n && (nat_le n 9 && begins_with (codes " */") (drop n bytes)) then Some (spelt (between 0 n bytes)) else None

-- N of the next comment that begins here, 1 where it isn't written
abbrev pub next_here : List ℕ → Option ℕ
next_here bytes =
    if begins_with (codes "/* c8 ignore next */") bytes then Some 1
    else (if begins_with (codes "/* c8 ignore next ") bytes then number_before_end (drop 18 bytes) else None)

-- the numbers of the line's next comments
abbrev pub nexts : List ℕ → List ℕ
nexts line = filter_map next_here (tails line)

-- line j is there and passes the test
abbrev pub passes_at : (List ℕ → Bool) → List (List ℕ) → ℕ → Bool
passes_at test all j = unwrap_or (option_map test (slice_get all j)) false

-- a start comment stands on line j, and from it up to but without line i stands no stop comment
abbrev pub is_stopped_until : List (List ℕ) → ℕ → ℕ → Bool
is_stopped_until all i j = passes_at has_start all j && not (list_any has_stop (between j i all))

-- line i is within the reach of a next comment of line j
abbrev pub is_next : List (List ℕ) → ℕ → ℕ → Bool
is_next all i j = passes_at (λ line. list_any (λ n. nat_le i (j + n)) (nexts line)) all j

-- line i is ignored for a comment of a line j, not after i
abbrev pub is_ignored : List (List ℕ) → ℕ → Bool
is_ignored all i = list_any (λ j. is_stopped_until all i j || is_next all i j) (offsets 0 (suc i))

-- for each of these lines, whether it is ignored
abbrev pub marks : List (List ℕ) → List Bool
marks all = map (is_ignored all) (offsets 0 (length all))

-- for each line of the text, whether it is ignored
unfoldable pub ignored : List ℕ → List Bool
ignored text = marks (lines text)
