-- Lists whose elements are given their places as keys.
use Rattle.std.proofs.Common.{◌≡◌, ℕ, zero, suc, ◌+◌, ◌-◌, ◌<◌, ◌≤◌, Bool, true, false, cond, List, [], ◌∷◌, ◌++◌, length, get_or, drop, refl, sym, ap, ◌∙◌, arith, append_assoc, add-one, length-append}
use Rattle.std.specs.Prelude.{Option, None, Some, filter, flat_map, decimal, not, unwrap_or, ◌==◌, option_map}
use Rattle.std.specs.List.{list_all, filter_map, cons_option}
use Rattle.std.specs.Str.Lines.{lines, lines_of_parts}
use Rattle.std.specs.List.{slice_split}
use Rattle.std.proofs.lemmas.List.{at_drop_more, length-map}
use Rattle.std.proofs.lemmas.List.Splits.{length-slice_split}
use Rattle.std.proofs.lemmas.List.Sums.{count_by-le-length}
use Rattle.istanbul_rules.specs.Ignored.{ignored, is_ignored}
use Rattle.std.proofs.lemmas.Option.{slice_get-get_or}
use Rattle.cov_text.specs.Listing.{offsets, counted, max_text}
use Rattle.istanbul_json.specs.declared.file.Branch.{Branch}
use Rattle.istanbul_json.specs.declared.file.Statement.{Statement}
use Rattle.utf16_lines.specs.Table.{Table}
use Rattle.istanbul_rules.specs.declared.part.Part.{Part}
use Rattle.istanbul_rules.specs.declared.part.PartBranch.{PartBranch}
use Rattle.istanbul_rules.specs.File.{keyed, is_off, line_count, counted_line, counted_from, statement, branch}

keyed-append : {A C : Type 0} (f : List ℕ → A → C) (place : ℕ) (xs ys : List A) → keyed f place (xs ++ ys) ≡ keyed f place xs ++ keyed f (place + length xs) ys
keyed-append f place [] ys = let e : place ≡ place + 0 = omega arith in ap (λ n. keyed f n ys) e
keyed-append f place (x ∷ xs) ys =
    let e : (place + 1) + length xs ≡ place + suc (length xs) = omega arith in
    ap (λ rest. f (decimal place) x ∷ rest) (keyed-append f (place + 1) xs ys) ∙ ap (λ n. f (decimal place) x ∷ (keyed f (place + 1) xs ++ keyed f n ys)) e

pub length-keyed : {A C : Type 0} (f : List ℕ → A → C) (place : ℕ) (xs : List A) → length (keyed f place xs) ≡ length xs
length-keyed f place [] = refl
length-keyed f place (x ∷ xs) = ap suc (length-keyed f (place + 1) xs)

filter-append : {A : Type 0} (p : A → Bool) (xs ys : List A) → filter p (xs ++ ys) ≡ filter p xs ++ filter p ys
filter-append p [] ys = refl
filter-append p (x ∷ xs) ys =
    elim (p x) as (λ t. cond t (x ∷ filter p (xs ++ ys)) (filter p (xs ++ ys)) ≡ cond t (x ∷ filter p xs) (filter p xs) ++ filter p ys) [
      | true ↦ ap (λ rest. x ∷ rest) (filter-append p xs ys)
      | false ↦ filter-append p xs ys
    ]

-- some more elements get their keys
pub keyed_on : {A C : Type 0} (f : List ℕ → A → C) (before after all : List C) (xs ys : List A) → after ≡ before ++ keyed f (length before) xs
    → before ++ keyed f (length before) (xs ++ ys) ≡ all → after ++ keyed f (length after) ys ≡ all
keyed_on f before after all xs ys grown so_far =
    let la = length-append before (keyed f (length before) xs) in
    let lk = length-keyed f (length before) xs in
    let lg : length after ≡ length (before ++ keyed f (length before) xs) = ap length grown in
    let count : length after ≡ length before + length xs = omega arith in
    (λ i. grown i ++ keyed f (count i) ys)
    ∙ append_assoc before (keyed f (length before) xs) (keyed f (length before + length xs) ys)
    ∙ ap (λ zs. before ++ zs) (sym (keyed-append f (length before) xs ys))
    ∙ so_far

-- the elements of one more part
pub part_on : {A C : Type 0} (f : List ℕ → A → C) (keep : A → Bool) (of : Part → List A) (parts : List Part) (i : ℕ) (d : Part) (more : List A) (before after all : List C)
    → i < length parts → more ≡ of (get_or parts i d) → after ≡ before ++ keyed f (length before) (filter keep more)
    → before ++ keyed f (length before) (filter keep (flat_map of (drop i parts))) ≡ all
    → after ++ keyed f (length after) (filter keep (flat_map of (drop (i + 1) parts))) ≡ all
part_on f keep of parts i d more before after all lt is grown so_far =
    let rest = flat_map of (drop (i + 1) parts) in
    let split : filter keep (flat_map of (drop i parts)) ≡ filter keep more ++ filter keep rest =
    ap (filter keep) (at_drop_more (flat_map of) parts i d lt ∙ ap (λ xs. xs ++ rest) (sym is)) ∙ filter-append keep more rest in
    keyed_on f before after all (filter keep more) (filter keep rest) grown (ap (λ xs. before ++ keyed f (length before) xs) (sym split) ∙ so_far)

-- ---- statements

offsets_first : (i n : ℕ) → i < n → offsets i n ≡ i ∷ offsets (i + 1) n
offsets_first i n lt =
    let e : n - i ≡ suc (n - (i + 1)) = omega arith in
    ap (counted i) e ∙ ap (λ k. i ∷ counted k (n - (i + 1))) (sym (add-one i))

abbrev is_on : List Bool → ℕ → Bool
is_on off i = not (is_off off i)

abbrev picked : List Part → Bool → ℕ → List ℕ → List (ℕ × ℕ)
picked parts t i rest = filter_map (counted_line parts) (cond t (i ∷ rest) rest)

counted_at : (off : List Bool) (parts : List Part) (i : ℕ) (t : Bool) → i < length off → get_or off i false ≡ t
    → counted_from off parts i ≡ picked parts (not t) i (filter (is_on off) (offsets (i + 1) (length off)))
counted_at off parts i t lt is =
    let here : is_off off i ≡ t = ap (λ o. unwrap_or o false) (slice_get-get_or off i false lt) ∙ is in
    ap (λ ns. filter_map (counted_line parts) (filter (is_on off) ns)) (offsets_first i (length off) lt)
    ∙ ap (λ u. picked parts (not u) i (filter (is_on off) (offsets (i + 1) (length off)))) here

-- an ignored line is left out
pub counted_off : (off : List Bool) (parts : List Part) (i : ℕ) → i < length off → get_or off i false ≡ true → counted_from off parts i ≡ counted_from off parts (i + 1)
counted_off off parts i lt is = counted_at off parts i true lt is

counted_with : (off : List Bool) (parts : List Part) (i : ℕ) (found : Option ℕ) → i < length off → get_or off i false ≡ false → found ≡ line_count parts i
    → counted_from off parts i ≡ cons_option (option_map (λ count. (i, count)) found) (counted_from off parts (i + 1))
counted_with off parts i found lt is there =
    counted_at off parts i false lt is ∙ ap (λ o. cons_option (option_map (λ count. (i, count)) o) (counted_from off parts (i + 1))) (sym there)

pub left_out : (table : Table) (off : List Bool) (parts : List Part) (i : ℕ) (before after all : List Statement) → after ≡ before
    → counted_from off parts i ≡ counted_from off parts (i + 1) → before ++ keyed (statement table) (length before) (counted_from off parts i) ≡ all
    → after ++ keyed (statement table) (length after) (counted_from off parts (i + 1)) ≡ all
left_out table off parts i before after all same rest so_far =
    (λ k. same k ++ keyed (statement table) (length (same k)) (sym rest k)) ∙ so_far

-- a line without a count is left out
pub without_count : (table : Table) (off : List Bool) (parts : List Part) (i : ℕ) (before after all : List Statement) → after ≡ before
    → i < length off → get_or off i false ≡ false → None ≡ line_count parts i → before ++ keyed (statement table) (length before) (counted_from off parts i) ≡ all
    → after ++ keyed (statement table) (length after) (counted_from off parts (i + 1)) ≡ all
without_count table off parts i before after all same lt is there so_far =
    left_out table off parts i before after all same (counted_with off parts i None lt is there) so_far

-- a line with a count is one more statement
pub with_count : (table : Table) (off : List Bool) (parts : List Part) (i count : ℕ) (before after all : List Statement) (s : Statement)
    → after ≡ before ++ s ∷ [] → s ≡ statement table (decimal (length before)) (i, count)
    → i < length off → get_or off i false ≡ false → Some count ≡ line_count parts i → before ++ keyed (statement table) (length before) (counted_from off parts i) ≡ all
    → after ++ keyed (statement table) (length after) (counted_from off parts (i + 1)) ≡ all
with_count table off parts i count before after all s grown made lt is there so_far =
    keyed_on (statement table) before after all ((i, count) ∷ []) (counted_from off parts (i + 1)) (grown ∙ ap (λ y. before ++ y ∷ []) made)
    (ap (λ xs. before ++ keyed (statement table) (length before) xs) (sym (counted_with off parts i (Some count) lt is there)) ∙ so_far)

-- ---- branches

pub counts_fit : (place : ℕ) (xs : List PartBranch) → list_all (λ (b : Branch). length b.counts == length b.locations) (keyed branch place xs) ≡ true
counts_fit place [] = refl
counts_fit place (x ∷ xs) = counts_fit (place + 1) xs

-- ---- how many lines there are

length-counted : (start n : ℕ) → length (counted start n) ≡ n
length-counted start zero = refl
length-counted start (suc n) = ap suc (length-counted (suc start) n)

length-lines_of_parts : (parts : List (List ℕ)) → length (lines_of_parts parts) ≤ length parts
length-lines_of_parts [] = omega arith
length-lines_of_parts (x ∷ []) = elim (length x == 0) as (λ t. length (cond t [] (x ∷ [])) ≤ 1) [ true ↦ omega arith | false ↦ omega arith ]
length-lines_of_parts (x ∷ y ∷ more) = let r = length-lines_of_parts (y ∷ more) in omega arith

-- so few that a line is a number of 32 bits
pub few_lines : (text : List ℕ) (off : List Bool) → length text ≤ max_text → off ≡ ignored text → length off < 4294967296
unfolding ignored
few_lines text off short is =
    let all = lines text in
    let parts = length-lines_of_parts (slice_split (λ b. b == 10) text) in
    let cut = length-slice_split (λ b. b == 10) text in
    let ends = count_by-le-length (λ b. b == 10) text in
    let marked = length-map (offsets 0 (length all)) (is_ignored all) in
    let numbers = length-counted 0 (length all - 0) in
    let same = ap length is in
    omega arith
