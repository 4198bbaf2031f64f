-- What is kept for each original line while segments are walked.
use Rattle.std.proofs.Common.{◌≡◌, ◌≢◌, ℕ, zero, suc, ◌+◌, ◌-◌, ◌<◌, ◌≤◌, min, true, false, cond, List, [], ◌∷◌, ◌++◌, length, map, take, get_or, set, replicate, refl, sym, ap, ◌∙◌, inl, inr, arith}
use Rattle.std.specs.Prelude.{nat_le, filter, ◌==◌}
use Rattle.std.specs.List.{list_all}
use Rattle.std.proofs.lemmas.List.{map-append, append-nil, take_more}
use Rattle.std.proofs.lemmas.List.Elements.{filter-append}
use Rattle.std.proofs.lemmas.Bool.{cases_eq, le-leb, lt-leb, eq-eqb, ne_eqb}
use Rattle.std.proofs.lemmas.Bool.Decides.{nat_tests}
use Rattle.cov_text.specs.Listing.{counted}
use Rattle.source_remap.specs.declared.lines.Landing.{Landing}
use Rattle.utf16_lines.specs.Table.{Table}
use Rattle.source_maps.specs.declared.map.MapSegment.{MapSegment}
use Rattle.source_remap.specs.Origins.{landings, on_line, is_leftmost, anchors, original_lines}
use Rattle.source_remap.specs.Columns.{least_column, least_on, leftmost_on}

-- ---- one value for each offset

pub length-counted : {A : Type 0} (f : ℕ → A) (start n : ℕ) → length (map f (counted start n)) ≡ n
length-counted f start zero = refl
length-counted f start (suc n) = ap suc (length-counted f (suc start) n)

same_counted : {A : Type 0} (f g : ℕ → A) (start n : ℕ) → ((k : ℕ) → start ≤ k → k < start + n → f k ≡ g k) → map f (counted start n) ≡ map g (counted start n)
same_counted f g start zero same = refl
same_counted f g start (suc n) same =
    let rest = same_counted f g (suc start) n (λ k le lt. same k (omega arith) (omega arith)) in
    let head : f start ≡ g start = same start (omega arith) (omega arith) in
    cc

set_counted : {A : Type 0} (f g : ℕ → A) (start n i at : ℕ) → at ≡ start + i → i < n → ((k : ℕ) → k ≢ at → f k ≡ g k) → set (map f (counted start n)) i (g at) ≡ map g (counted start n)
set_counted f g start zero i at is lt same = absurd (omega arith)
set_counted f g start (suc n) zero at is lt same =
    let rest = same_counted f g (suc start) n (λ k le past. same k (λ e. omega arith)) in
    let here : at ≡ start = omega arith in
    cc
set_counted f g start (suc n) (suc i) at is lt same =
    let rest = set_counted f g (suc start) n i at (omega arith) (omega arith) same in
    let head : f start ≡ g start = same start (λ e. omega arith) in
    cc

get_counted : {A : Type 0} (f : ℕ → A) (start n i at : ℕ) (d : A) → at ≡ start + i → i < n → get_or (map f (counted start n)) i d ≡ f at
get_counted f start zero i at d is lt = absurd (omega arith)
get_counted f start (suc n) zero at d is lt = ap f (omega arith)
get_counted f start (suc n) (suc i) at d is lt = get_counted f (suc start) n i at d (omega arith) (omega arith)

pub replicate_counted : {A : Type 0} (a : A) (start n : ℕ) → replicate n a ≡ map (λ (_k : ℕ). a) (counted start n)
replicate_counted a start zero = refl
replicate_counted a start (suc n) = ap (λ (rest : List _). a ∷ rest) (replicate_counted a (suc start) n)

-- ---- one more landing

on_line-other : (k : ℕ) (ys : List Landing) (x : Landing) → k ≢ x.line → on_line k (ys ++ x ∷ []) ≡ on_line k ys
on_line-other k ys x other =
    filter-append (λ (l : Landing). l.line == k) ys (x ∷ [])
    ∙ ap (λ t. on_line k ys ++ cond t (x ∷ []) []) (ne_eqb x.line k (λ e. other (sym e)))
    ∙ append-nil (on_line k ys)

on_line-here : (ys : List Landing) (x : Landing) → on_line x.line (ys ++ x ∷ []) ≡ on_line x.line ys ++ x ∷ []
on_line-here ys x =
    filter-append (λ (l : Landing). l.line == x.line) ys (x ∷ []) ∙ ap (λ t. on_line x.line ys ++ cond t (x ∷ []) []) (eq-eqb x.line x.line refl)

-- ---- least columns

least_column-push : (ys : List Landing) (x : Landing) → least_column (ys ++ x ∷ []) ≡ min (least_column ys) (min x.column 4294967295)
least_column-push [] x = omega arith
least_column-push (y ∷ ys) x = omega (arith, least_column-push ys x)

-- no column is greater than the greatest number
pub least-small : (ys : List Landing) → least_column ys ≤ 4294967295
least-small [] = omega arith
least-small (y ∷ ys) = omega (arith, least-small ys)

least_more : (ys : List Landing) (x : Landing) (n old : ℕ) (least : List ℕ) → x.line < n → least ≡ map (least_on ys) (counted 0 n) → old ≡ get_or least x.line old
    → set least x.line (min old x.column) ≡ map (least_on (ys ++ x ∷ [])) (counted 0 n)
least_more ys x n old least lt is read =
    let was : old ≡ least_on ys x.line = read ∙ ap (λ l. get_or l x.line old) is ∙ get_counted (least_on ys) 0 n x.line x.line old (omega arith) lt in
    let now : min old x.column ≡ least_on (ys ++ x ∷ []) x.line =
    omega (arith, ap least_column (on_line-here ys x), least_column-push (on_line x.line ys) x, least-small (on_line x.line ys)) in
    ap (λ l. set l x.line (min old x.column)) is ∙ ap (λ v. set (map (least_on ys) (counted 0 n)) x.line v) now
    ∙ set_counted (least_on ys) (least_on (ys ++ x ∷ [])) 0 n x.line x.line (omega arith) lt (λ k other. sym (ap least_column (on_line-other k ys x other)))

least_past : (ys : List Landing) (x : Landing) (n : ℕ) → n ≤ x.line → map (least_on ys) (counted 0 n) ≡ map (least_on (ys ++ x ∷ [])) (counted 0 n)
least_past ys x n past =
    same_counted (least_on ys) (least_on (ys ++ x ∷ [])) 0 n (λ k le below. sym (ap least_column (on_line-other k ys x (λ e. omega arith))))

-- what a slice's place past the end reads as
abbrev pub no_landing : Landing
no_landing = record { line = 0; column = 0; offset = 0 }

pub least_step : (all : List Landing) (i n old v : ℕ) (least : List ℕ) → i < length all → (get_or all i no_landing).line < length least
    → least ≡ map (least_on (take i all)) (counted 0 n) → old ≡ get_or least (get_or all i no_landing).line old → v ≡ min old (get_or all i no_landing).column
    → set least (get_or all i no_landing).line v ≡ map (least_on (take (i + 1) all)) (counted 0 n)
least_step all i n old v least within lt is read v_is =
    let x = get_or all i no_landing in
    let many : length least ≡ n = ap length is ∙ length-counted (least_on (take i all)) 0 n in
    ap (set least x.line) v_is ∙ least_more (take i all) x n old least (omega arith) is read ∙ ap (λ ys. map (least_on ys) (counted 0 n)) (sym (take_more all i no_landing within))

pub least_same : (all : List Landing) (i n : ℕ) (least : List ℕ) → i < length all → length least ≤ (get_or all i no_landing).line
    → least ≡ map (least_on (take i all)) (counted 0 n) → least ≡ map (least_on (take (i + 1) all)) (counted 0 n)
least_same all i n least within past is =
    let x = get_or all i no_landing in
    let many : length least ≡ n = ap length is ∙ length-counted (least_on (take i all)) 0 n in
    is ∙ least_past (take i all) x n (omega arith) ∙ ap (λ ys. map (least_on ys) (counted 0 n)) (sym (take_more all i no_landing within))

-- ---- the leftmost

-- of these the offsets of those that land on a line further right than none of all
abbrev pub leftmost_so_far : List Landing → List Landing → ℕ → List ℕ
leftmost_so_far all ys k = map (λ l. l.offset) (filter (is_leftmost (on_line k all)) (on_line k ys))

-- a column is none greater than the least exactly where it is none greater than any
least-leftmost : (c : ℕ) (ls : List Landing) → c ≤ 4294967295 → nat_le c (least_column ls) ≡ list_all (λ other. nat_le c other.column) ls
least-leftmost c [] small = le-leb c 4294967295 small
least-leftmost c (l ∷ ls) small =
    let rest = least-leftmost c ls small in
    grind (arith, nat_tests)

is_least : (all : List Landing) (x : Landing) (n : ℕ) (least : List ℕ) → x.line < n → x.column ≤ 4294967295 → least ≡ map (least_on all) (counted 0 n)
    → is_leftmost (on_line x.line all) x ≡ nat_le x.column (get_or least x.line 0)
is_least all x n least lt small is =
    sym (ap (nat_le x.column) (ap (λ l. get_or l x.line 0) is ∙ get_counted (least_on all) 0 n x.line x.line 0 (omega arith) lt) ∙ least-leftmost x.column (on_line x.line all) small)

so_far-other : (all ys : List Landing) (x : Landing) (k : ℕ) → k ≢ x.line → leftmost_so_far all ys k ≡ leftmost_so_far all (ys ++ x ∷ []) k
so_far-other all ys x k other = sym (ap (λ ls. map (λ (l : Landing). l.offset) (filter (is_leftmost (on_line k all)) ls)) (on_line-other k ys x other))

so_far-here : (all ys : List Landing) (x : Landing) → leftmost_so_far all (ys ++ x ∷ []) x.line
    ≡ leftmost_so_far all ys x.line ++ cond (is_leftmost (on_line x.line all) x) (x.offset ∷ []) []
so_far-here all ys x =
    let p = is_leftmost (on_line x.line all) in
    ap (λ ls. map (λ (l : Landing). l.offset) (filter p ls)) (on_line-here ys x)
    ∙ ap (map (λ (l : Landing). l.offset)) (filter-append p (on_line x.line ys) (x ∷ []))
    ∙ map-append (λ (l : Landing). l.offset) (filter p (on_line x.line ys)) (filter p (x ∷ []))
    ∙ ap (λ end. leftmost_so_far all ys x.line ++ end)
    (elim (p x) as (λ t. map (λ (l : Landing). l.offset) (cond t (x ∷ []) []) ≡ cond t (x.offset ∷ []) []) [ true ↦ refl | false ↦ refl ])

-- the invariant of the loop over the landings
abbrev So_far : List Landing → ℕ → ℕ → List (List ℕ) → Type 0
So_far all i n found = found ≡ map (leftmost_so_far all (take i all)) (counted 0 n)

found_more : (all ys : List Landing) (x : Landing) (n : ℕ) (old : List ℕ) (found : List (List ℕ)) → x.line < n → is_leftmost (on_line x.line all) x ≡ true
    → found ≡ map (leftmost_so_far all ys) (counted 0 n) → old ≡ get_or found x.line old
    → set found x.line (old ++ x.offset ∷ []) ≡ map (leftmost_so_far all (ys ++ x ∷ [])) (counted 0 n)
found_more all ys x n old found lt test is read =
    let f = leftmost_so_far all ys in
    let g = leftmost_so_far all (ys ++ x ∷ []) in
    let was : old ≡ f x.line = read ∙ ap (λ l. get_or l x.line old) is ∙ get_counted f 0 n x.line x.line old (omega arith) lt in
    let now : old ++ x.offset ∷ [] ≡ g x.line =
    ap (λ l. l ++ x.offset ∷ []) was ∙ sym (so_far-here all ys x ∙ ap (λ t. f x.line ++ cond t (x.offset ∷ []) []) test) in
    ap (λ l. set l x.line (old ++ x.offset ∷ [])) is ∙ ap (λ v. set (map f (counted 0 n)) x.line v) now
    ∙ set_counted f g 0 n x.line x.line (omega arith) lt (so_far-other all ys x)

found_right : (all ys : List Landing) (x : Landing) (n : ℕ) → is_leftmost (on_line x.line all) x ≡ false
    → map (leftmost_so_far all ys) (counted 0 n) ≡ map (leftmost_so_far all (ys ++ x ∷ [])) (counted 0 n)
found_right all ys x n test =
    let f = leftmost_so_far all ys in
    let g = leftmost_so_far all (ys ++ x ∷ []) in
    let here : f x.line ≡ g x.line = sym (so_far-here all ys x ∙ ap (λ t. f x.line ++ cond t (x.offset ∷ []) []) test ∙ append-nil (f x.line)) in
    same_counted f g 0 n (λ k le below. elim (cases_eq k x.line) [ inl e ↦ ap f e ∙ here ∙ sym (ap g e) | inr other ↦ so_far-other all ys x k other ])

found_past : (all ys : List Landing) (x : Landing) (n : ℕ) → n ≤ x.line
    → map (leftmost_so_far all ys) (counted 0 n) ≡ map (leftmost_so_far all (ys ++ x ∷ [])) (counted 0 n)
found_past all ys x n past =
    same_counted (leftmost_so_far all ys) (leftmost_so_far all (ys ++ x ∷ [])) 0 n (λ k le below. so_far-other all ys x k (λ e. omega arith))

pub found_step : (all : List Landing) (i n : ℕ) (least : List ℕ) (old now : List ℕ) (found : List (List ℕ)) → i < length all → (get_or all i no_landing).line < n
    → (get_or all i no_landing).column ≤ 4294967295 → least ≡ map (least_on all) (counted 0 n)
    → (get_or all i no_landing).column ≤ get_or least (get_or all i no_landing).line 0
    → So_far all i n found → old ≡ get_or found (get_or all i no_landing).line old → now ≡ old ++ (get_or all i no_landing).offset ∷ []
    → So_far all (i + 1) n (set found (get_or all i no_landing).line now)
found_step all i n least old now found within lt small least_is le is read now_is =
    let x = get_or all i no_landing in
    let test : is_leftmost (on_line x.line all) x ≡ true = is_least all x n least lt small least_is ∙ le-leb x.column (get_or least x.line 0) le in
    ap (set found x.line) now_is ∙ found_more all (take i all) x n old found lt test is read
    ∙ ap (λ ys. map (leftmost_so_far all ys) (counted 0 n)) (sym (take_more all i no_landing within))

pub found_same-right : (all : List Landing) (i n : ℕ) (least : List ℕ) (found : List (List ℕ)) → i < length all → (get_or all i no_landing).line < n
    → (get_or all i no_landing).column ≤ 4294967295 → least ≡ map (least_on all) (counted 0 n)
    → get_or least (get_or all i no_landing).line 0 < (get_or all i no_landing).column → So_far all i n found → So_far all (i + 1) n found
found_same-right all i n least found within lt small least_is gt is =
    let x = get_or all i no_landing in
    let test : is_leftmost (on_line x.line all) x ≡ false = is_least all x n least lt small least_is ∙ lt-leb x.column (get_or least x.line 0) gt in
    is ∙ found_right all (take i all) x n test ∙ ap (λ ys. map (leftmost_so_far all ys) (counted 0 n)) (sym (take_more all i no_landing within))

pub found_same-past : (all : List Landing) (i n : ℕ) (found : List (List ℕ)) → i < length all → n ≤ (get_or all i no_landing).line
    → So_far all i n found → So_far all (i + 1) n found
found_same-past all i n found within past is =
    is ∙ found_past all (take i all) (get_or all i no_landing) n past ∙ ap (λ ys. map (leftmost_so_far all ys) (counted 0 n)) (sym (take_more all i no_landing within))

-- ---- all together

pub least-of_all : (all given : List Landing) (n : ℕ) (xs least : List ℕ) → xs ≡ least → least ≡ map (least_on given) (counted 0 n) → given ≡ all
    → xs ≡ map (least_on all) (counted 0 (length xs))
least-of_all all given n xs least same is given_is =
    let here = same ∙ is ∙ ap (λ ls. map (least_on ls) (counted 0 n)) given_is in
    let many : length xs ≡ n = ap length here ∙ length-counted (least_on all) 0 n in
    here ∙ ap (λ m. map (least_on all) (counted 0 m)) (sym many)

pub anchors-of_all : (ls : List Landing) (n : ℕ) (xs least : List ℕ) (found : List (List ℕ)) → xs ≡ least → least ≡ map (least_on ls) (counted 0 n)
    → found ≡ map (leftmost_on ls) (counted 0 (length xs)) → found ≡ map (leftmost_on ls) (counted 0 n)
anchors-of_all ls n xs least found same is found_is =
    let many : length xs ≡ n = ap length (same ∙ is) ∙ length-counted (least_on ls) 0 n in
    found_is ∙ ap (λ m. map (leftmost_on ls) (counted 0 m)) many

pub anchors-found : (segments : List MapSegment) (source : ℕ) (generated : Table) (n : ℕ) (ls : List Landing) → ls ≡ landings segments source generated
    → map (leftmost_on ls) (counted 0 n) ≡ original_lines segments source generated n
unfolding anchors
anchors-found segments source generated n ls is =
    let many : n ≡ n - 0 = omega arith in
    ap (λ ls. map (leftmost_on ls) (counted 0 n)) is ∙ ap (λ m. map (leftmost_on (landings segments source generated)) (counted 0 m)) many
