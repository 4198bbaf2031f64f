-- One more line of a walk over the lines.
use Rattle.std.proofs.Common.{◌≡◌, ℕ, zero, suc, ◌+◌, ◌-◌, ◌<◌, ◌≤◌, Bool, true, false, List, [], ◌∷◌, ◌++◌, length, refl, sym, ap, ◌∙◌, subst, arith, take, drop, length-append, length-drop, inl, inr}
use Rattle.std.specs.Prelude.{map, max, not, ◌&&◌, ◌||◌, nat_le, nat_lt, fold}
use Rattle.std.specs.List.{list_any, between}
use Rattle.std.proofs.lemmas.Bool.{cases_lt, lt-ltb, le-ltb, le-leb, lt-leb}
use Rattle.std.proofs.lemmas.List.{map-append, take_all, take-append-le, drop-append-le}
use Rattle.std.proofs.lemmas.List.Folds.{list_any-append}
use Rattle.std.proofs.Math.Bool.{or-false}
use Rattle.cov_text.specs.Listing.{counted, offsets}
use Rattle.istanbul_rules.specs.Ignored.{has_start, has_stop, nexts, passes_at, is_stopped_until, is_next, is_ignored, marks}
use Rattle.istanbul_rules.specs.Walk.{covered, is_open, Reaches}

-- ---- numbers in a row

counted_more : (start n : ℕ) → counted start (suc n) ≡ counted start n ++ (start + n) ∷ []
counted_more start zero = let e : start ≡ start + 0 = omega arith in (λ i. e i ∷ [])
counted_more start (suc n) =
    let e : suc start + n ≡ start + suc n = omega arith in
    ap (λ ns. start ∷ ns) (counted_more (suc start) n) ∙ (λ i. start ∷ (counted (suc start) n ++ e i ∷ []))

pub offsets_more : (n : ℕ) → offsets 0 (suc n) ≡ offsets 0 n ++ n ∷ []
offsets_more n =
    let a : suc n - 0 ≡ suc n = omega arith in
    let b : n ≡ n - 0 = omega arith in
    let c : 0 + n ≡ n = omega arith in
    ap (counted 0) a ∙ counted_more 0 n ∙ (λ i. counted 0 (b i) ++ c i ∷ [])

any_counted : (f g : ℕ → Bool) (start n : ℕ) → ((j : ℕ) → j < start + n → f j ≡ g j) → list_any f (counted start n) ≡ list_any g (counted start n)
any_counted f g start zero same = refl
any_counted f g start (suc n) same =
    ap (λ t. t || list_any f (counted (suc start) n)) (same start (omega arith)) ∙ ap (λ t. g start || t) (any_counted f g (suc start) n (λ j lt. same j (omega arith)))

map_counted : {A : Type 0} (f g : ℕ → A) (start n : ℕ) → ((j : ℕ) → j < start + n → f j ≡ g j) → map f (counted start n) ≡ map g (counted start n)
map_counted f g start zero same = refl
map_counted f g start (suc n) same =
    let head : f start ≡ g start = same start (omega arith) in
    let tail = map_counted f g (suc start) n (λ j lt. same j (omega arith)) in
    (λ i. head i ∷ tail i)

any_below : (f g : ℕ → Bool) (n : ℕ) → ((j : ℕ) → j < n → f j ≡ g j) → list_any f (offsets 0 n) ≡ list_any g (offsets 0 n)
any_below f g n same = any_counted f g 0 (n - 0) (λ j lt. same j (omega arith))

map_below : {A : Type 0} (f g : ℕ → A) (n : ℕ) → ((j : ℕ) → j < n → f j ≡ g j) → map f (offsets 0 n) ≡ map g (offsets 0 n)
map_below f g n same = map_counted f g 0 (n - 0) (λ j lt. same j (omega arith))

-- ---- tests

or_four : (a b c d : Bool) → ((a || b) || (c || d)) ≡ ((a || c) || (b || d))
or_four true b c d = refl
or_four false true true d = refl
or_four false true false d = refl
or_four false false c d = refl

or_and : (a b c : Bool) → ((a && c) || (b && c)) ≡ ((a || b) && c)
or_and true true true = refl
or_and true true false = refl
or_and true false true = refl
or_and true false false = refl
or_and false b c = refl

any_or : {A : Type 0} (f g : A → Bool) (xs : List A) → list_any (λ x. f x || g x) xs ≡ (list_any f xs || list_any g xs)
any_or f g [] = refl
any_or f g (x ∷ xs) = ap (λ t. (f x || g x) || t) (any_or f g xs) ∙ or_four (f x) (g x) (list_any f xs) (list_any g xs)

any_and : {A : Type 0} (f : A → Bool) (c : Bool) (xs : List A) → list_any (λ x. f x && c) xs ≡ (list_any f xs && c)
any_and f c [] = refl
any_and f c (x ∷ xs) = ap (λ t. (f x && c) || t) (any_and f c xs) ∙ or_and (f x) (list_any f xs) c

-- ---- one more line

passes_before : (test : List ℕ → Bool) (ys : List (List ℕ)) (x : List ℕ) (j : ℕ) → j < length ys → passes_at test (ys ++ x ∷ []) j ≡ passes_at test ys j
passes_before test [] x j lt = absurd (omega arith)
passes_before test (y ∷ ys) x zero lt = refl
passes_before test (y ∷ ys) x (suc j) lt = passes_before test ys x j (omega arith)

passes_last : (test : List ℕ → Bool) (ys : List (List ℕ)) (x : List ℕ) → passes_at test (ys ++ x ∷ []) (length ys) ≡ test x
passes_last test [] x = refl
passes_last test (y ∷ ys) x = passes_last test ys x

between_before : (ys : List (List ℕ)) (x : List ℕ) (j i : ℕ) → j ≤ i → i ≤ length ys → between j i (ys ++ x ∷ []) ≡ between j i ys
between_before ys x j i le within =
    ap (take (i - j)) (drop-append-le j ys (x ∷ []) (omega arith)) ∙ take-append-le (i - j) (drop j ys) (x ∷ []) (simp length-drop (omega arith))

between_last : (ys : List (List ℕ)) (x : List ℕ) (j : ℕ) → j ≤ length ys → between j (suc (length ys)) (ys ++ x ∷ []) ≡ between j (length ys) ys ++ x ∷ []
between_last ys x j le =
    let all : take (suc (length ys) - j) (drop j ys ++ x ∷ []) ≡ drop j ys ++ x ∷ [] = take_all (suc (length ys) - j) (drop j ys ++ x ∷ []) (simp (length-append, length-drop) (omega arith)) in
    let front : take (length ys - j) (drop j ys) ≡ drop j ys = take_all (length ys - j) (drop j ys) (simp length-drop (omega arith)) in
    ap (take (suc (length ys) - j)) (drop-append-le j ys (x ∷ []) le) ∙ all ∙ ap (λ zs. zs ++ x ∷ []) (sym front)

stopped_before : (ys : List (List ℕ)) (x : List ℕ) (i j : ℕ) → j ≤ i → i < length ys → is_stopped_until (ys ++ x ∷ []) i j ≡ is_stopped_until ys i j
stopped_before ys x i j le within =
    ap (λ t. t && not (list_any has_stop (between j i (ys ++ x ∷ [])))) (passes_before has_start ys x j (omega arith))
    ∙ ap (λ zs. passes_at has_start ys j && not (list_any has_stop zs)) (between_before ys x j i le (omega arith))

-- the same where the new line is the one asked about
stopped_until_last : (ys : List (List ℕ)) (x : List ℕ) (j : ℕ) → j < length ys → is_stopped_until (ys ++ x ∷ []) (length ys) j ≡ is_stopped_until ys (length ys) j
stopped_until_last ys x j lt =
    ap (λ t. t && not (list_any has_stop (between j (length ys) (ys ++ x ∷ [])))) (passes_before has_start ys x j lt)
    ∙ ap (λ zs. passes_at has_start ys j && not (list_any has_stop zs)) (between_before ys x j (length ys) (omega arith) (omega arith))

next_before : (ys : List (List ℕ)) (x : List ℕ) (i j : ℕ) → j < length ys → is_next (ys ++ x ∷ []) i j ≡ is_next ys i j
next_before ys x i j lt = passes_before (λ line. list_any (λ n. nat_le i (j + n)) (nexts line)) ys x j lt

next_last : (ys : List (List ℕ)) (x : List ℕ) (i : ℕ) → is_next (ys ++ x ∷ []) i (length ys) ≡ list_any (λ n. nat_le i (length ys + n)) (nexts x)
next_last ys x i = passes_last (λ line. list_any (λ n. nat_le i (length ys + n)) (nexts line)) ys x

-- the marks of the earlier lines stay
ignored_before : (ys : List (List ℕ)) (x : List ℕ) (i : ℕ) → i < length ys → is_ignored (ys ++ x ∷ []) i ≡ is_ignored ys i
ignored_before ys x i lt =
    any_below (λ j. is_stopped_until (ys ++ x ∷ []) i j || is_next (ys ++ x ∷ []) i j) (λ j. is_stopped_until ys i j || is_next ys i j) (suc i) (λ j le.
    ap (λ t. t || is_next (ys ++ x ∷ []) i j) (stopped_before ys x i j (omega arith) lt) ∙ ap (λ t. is_stopped_until ys i j || t) (next_before ys x i j (omega arith)))

-- a list of tests, one more at its end
any_more : (f : ℕ → Bool) (n : ℕ) → list_any f (offsets 0 (suc n)) ≡ (list_any f (offsets 0 n) || f n)
any_more f n = ap (list_any f) (offsets_more n) ∙ list_any-append f (offsets 0 n) (n ∷ []) ∙ ap (λ t. list_any f (offsets 0 n) || t) (or-false (f n))

nothing_between : (zs : List (List ℕ)) (n : ℕ) → list_any has_stop (between n n zs) ≡ false
nothing_between zs n = let e : n - n ≡ 0 = omega arith in ap (λ k. list_any has_stop (take k (drop n zs))) e

and_not_false : (a b : Bool) → b ≡ false → (a && not b) ≡ a
and_not_false true b e = ap not e
and_not_false false b e = refl

-- on the new line, a start comment of it or of an earlier one holds
pub started_by : (ys : List (List ℕ)) (x : List ℕ) → list_any (is_stopped_until (ys ++ x ∷ []) (length ys)) (offsets 0 (suc (length ys))) ≡ (is_open ys || has_start x)
started_by ys x =
    let n = length ys in
    any_more (is_stopped_until (ys ++ x ∷ []) n) n
    ∙ ap (λ t. t || is_stopped_until (ys ++ x ∷ []) n n) (any_below (is_stopped_until (ys ++ x ∷ []) n) (is_stopped_until ys n) n (λ j lt. stopped_until_last ys x j lt))
    ∙ ap (λ t. is_open ys || t) (and_not_false (passes_at has_start (ys ++ x ∷ []) n) (list_any has_stop (between n n (ys ++ x ∷ []))) (nothing_between (ys ++ x ∷ []) n) ∙ passes_last has_start ys x)

stop_more : (p q r : Bool) → (p && not (q || (r || false))) ≡ ((p && not q) && not r)
stop_more true true r = refl
stop_more true false true = refl
stop_more true false false = refl
stop_more false q r = refl

-- behind the new line it holds unless that line has a stop comment
stopped_behind : (ys : List (List ℕ)) (x : List ℕ) (j : ℕ) → j ≤ length ys
    → is_stopped_until (ys ++ x ∷ []) (suc (length ys)) j ≡ (is_stopped_until (ys ++ x ∷ []) (length ys) j && not (has_stop x))
stopped_behind ys x j le =
    let n = length ys in
    let p = passes_at has_start (ys ++ x ∷ []) j in
    ap (λ zs. p && not (list_any has_stop zs)) (between_last ys x j le)
    ∙ ap (λ t. p && not t) (list_any-append has_stop (between j n ys) (x ∷ []))
    ∙ stop_more p (list_any has_stop (between j n ys)) (has_stop x)
    ∙ ap (λ zs. (p && not (list_any has_stop zs)) && not (has_stop x)) (sym (between_before ys x j n le (omega arith)))

length_more : (ys : List (List ℕ)) (x : List ℕ) → length (ys ++ x ∷ []) ≡ suc (length ys)
length_more ys x = let e = length-append ys (x ∷ []) in omega arith

pub open_more : (ys : List (List ℕ)) (x : List ℕ) → is_open (ys ++ x ∷ []) ≡ ((is_open ys || has_start x) && not (has_stop x))
open_more ys x =
    let n = length ys in
    let zs = ys ++ x ∷ [] in
    ap (λ k. list_any (is_stopped_until zs k) (offsets 0 k)) (length_more ys x)
    ∙ any_below (is_stopped_until zs (suc n)) (λ j. is_stopped_until zs n j && not (has_stop x)) (suc n) (λ j lt. stopped_behind ys x j (omega arith))
    ∙ any_and (is_stopped_until zs n) (not (has_stop x)) (offsets 0 (suc n))
    ∙ ap (λ t. t && not (has_stop x)) (started_by ys x)

-- ---- next comments

or_three : (a b c : Bool) → ((a || b) || c) ≡ (a || (b || c))
or_three true b c = refl
or_three false b c = refl

below_either : (i k a m : ℕ) → nat_lt i (k + max a (suc m)) ≡ (nat_lt i (k + a) || nat_le i (k + m))
below_either i k a m =
    elim (cases_lt i (k + a)) [
      | inl lt ↦ lt-ltb i (k + max a (suc m)) (omega arith) ∙ sym (ap (λ t. t || nat_le i (k + m)) (lt-ltb i (k + a) lt))
      | inr ge ↦ elim (cases_lt (k + m) i) [
        | inl lt ↦ le-ltb i (k + max a (suc m)) (omega arith) ∙ sym (ap (λ t. t || nat_le i (k + m)) (le-ltb i (k + a) ge) ∙ lt-leb i (k + m) lt)
        | inr le ↦ lt-ltb i (k + max a (suc m)) (omega arith) ∙ sym (ap (λ t. t || nat_le i (k + m)) (le-ltb i (k + a) ge) ∙ le-leb i (k + m) le)
      ]
    ]

reach_of : (i k a : ℕ) (ns : List ℕ) → nat_lt i (k + fold (λ a n. max a (suc n)) a ns) ≡ (nat_lt i (k + a) || list_any (λ n. nat_le i (k + n)) ns)
reach_of i k a [] = sym (or-false (nat_lt i (k + a)))
reach_of i k a (m ∷ ns) =
    reach_of i k (max a (suc m)) ns
    ∙ ap (λ t. t || list_any (λ n. nat_le i (k + n)) ns) (below_either i k a m)
    ∙ or_three (nat_lt i (k + a)) (nat_le i (k + m)) (list_any (λ n. nat_le i (k + n)) ns)

covered_by : (i k : ℕ) (x : List ℕ) → k ≤ i → nat_lt i (k + covered x) ≡ list_any (λ n. nat_le i (k + n)) (nexts x)
covered_by i k x le = reach_of i k 0 (nexts x) ∙ ap (λ t. t || list_any (λ n. nat_le i (k + n)) (nexts x)) (le-ltb i (k + 0) (omega arith))

below_max : (i a b : ℕ) → nat_lt i (max a b) ≡ (nat_lt i a || nat_lt i b)
below_max i a b =
    elim (cases_lt i a) [
      | inl lt ↦ lt-ltb i (max a b) (omega arith) ∙ sym (ap (λ t. t || nat_lt i b) (lt-ltb i a lt))
      | inr ge ↦ elim (cases_lt i b) [
        | inl lt ↦ lt-ltb i (max a b) (omega arith) ∙ sym (ap (λ t. t || nat_lt i b) (le-ltb i a ge) ∙ lt-ltb i b lt)
        | inr le ↦ le-ltb i (max a b) (omega arith) ∙ sym (ap (λ t. t || nat_lt i b) (le-ltb i a ge) ∙ le-ltb i b le)
      ]
    ]

-- the reach with the new line's comments
pub reached_with : (ys : List (List ℕ)) (x : List ℕ) (reached i : ℕ) → Reaches ys reached → length ys ≤ i
    → nat_lt i (max reached (length ys + covered x)) ≡ list_any (is_next (ys ++ x ∷ []) i) (offsets 0 (suc (length ys)))
reached_with ys x reached i so_far le =
    let n = length ys in
    let zs = ys ++ x ∷ [] in
    below_max i reached (n + covered x)
    ∙ ap (λ t. t || nat_lt i (n + covered x)) (so_far i le)
    ∙ ap (λ t. list_any (is_next ys i) (offsets 0 n) || t) (covered_by i n x le ∙ sym (next_last ys x i))
    ∙ ap (λ t. t || is_next zs i n) (sym (any_below (is_next zs i) (is_next ys i) n (λ j lt. next_before ys x i j lt)))
    ∙ sym (any_more (is_next zs i) n)

pub reaches_more : (ys : List (List ℕ)) (x : List ℕ) (reached : ℕ) → Reaches ys reached → Reaches (ys ++ x ∷ []) (max reached (length ys + covered x))
reaches_more ys x reached so_far i le =
    let e = length_more ys x in
    reached_with ys x reached i so_far (omega arith) ∙ ap (λ k. list_any (is_next (ys ++ x ∷ []) i) (offsets 0 k)) (sym e)

-- ---- marks

-- whether the new line is ignored
pub ignored_last : (ys : List (List ℕ)) (x : List ℕ) (reached : ℕ) → Reaches ys reached
    → is_ignored (ys ++ x ∷ []) (length ys) ≡ ((is_open ys || has_start x) || nat_lt (length ys) (max reached (length ys + covered x)))
ignored_last ys x reached so_far =
    let n = length ys in
    let zs = ys ++ x ∷ [] in
    any_or (is_stopped_until zs n) (is_next zs n) (offsets 0 (suc n))
    ∙ ap (λ t. t || list_any (is_next zs n) (offsets 0 (suc n))) (started_by ys x)
    ∙ ap (λ t. (is_open ys || has_start x) || t) (sym (reached_with ys x reached n so_far (omega arith)))

pub marks_more : (ys : List (List ℕ)) (x : List ℕ) (reached : ℕ) → Reaches ys reached
    → marks (ys ++ x ∷ []) ≡ marks ys ++ ((is_open ys || has_start x) || nat_lt (length ys) (max reached (length ys + covered x))) ∷ []
marks_more ys x reached so_far =
    let n = length ys in
    let zs = ys ++ x ∷ [] in
    ap (λ k. map (is_ignored zs) (offsets 0 k)) (length_more ys x)
    ∙ ap (map (is_ignored zs)) (offsets_more n)
    ∙ map-append (is_ignored zs) (offsets 0 n) (n ∷ [])
    ∙ ap (λ ms. ms ++ is_ignored zs n ∷ []) (map_below (is_ignored zs) (is_ignored ys) n (λ i lt. ignored_before ys x i lt))
    ∙ ap (λ t. marks ys ++ t ∷ []) (ignored_last ys x reached so_far)

-- ---- a step of the walk

-- what is known behind these lines
pub record LineWalk (ys : List (List ℕ)) (so_far : List Bool) (opened : Bool) (line reach : ℕ) : Type 0 where
  pub off : so_far ≡ marks ys
  pub is_open : opened ≡ is_open ys
  pub reached : Reaches ys reach
  pub at : line ≡ length ys

pub line_walked : (ys : List (List ℕ)) (x : List ℕ) (off off' : List Bool) (opened starts stops : Bool) (at reached n reached' : ℕ) (zs : List (List ℕ)) → ys ++ x ∷ [] ≡ zs
    → LineWalk ys off opened at reached → starts ≡ has_start x → stops ≡ has_stop x → n ≡ covered x → reached' ≡ max reached (at + n)
    → off' ≡ off ++ ((opened || starts) || nat_lt at reached') ∷ []
    → LineWalk zs off' ((opened || starts) && not stops) (at + 1) reached'
line_walked ys x off off' opened starts stops at reached n reached' zs more walk started stopped covers reaches grown =
    let now : (opened || starts) ≡ (is_open ys || has_start x) = (λ i. walk.is_open i || started i) in
    let reach : reached' ≡ max reached (length ys + covered x) = reaches ∙ (λ i. max reached (walk.at i + covers i)) in
    let here = subst (Reaches (ys ++ x ∷ [])) (sym reach) (reaches_more ys x reached walk.reached) in
    let count : at + 1 ≡ length (ys ++ x ∷ []) = let e = length_more ys x in let a = walk.at in omega arith in
    subst (λ ls. LineWalk ls off' ((opened || starts) && not stops) (at + 1) reached') more (record {
      off = grown ∙ (λ i. walk.off i ++ (now i || nat_lt (walk.at i) (reach i)) ∷ []) ∙ sym (marks_more ys x reached walk.reached);
      is_open = (λ i. now i && not (stopped i)) ∙ sym (open_more ys x);
      reached = here;
      at = count;
    })
