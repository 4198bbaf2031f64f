-- Where a comment stands on a line.
use Rattle.std.proofs.Common.{◌≡◌, ℕ, zero, suc, ◌+◌, ◌-◌, ◌*◌, ◌^◌, ◌<◌, ◌≤◌, Bool, true, false, cond, List, [], ◌∷◌, ◌++◌, length, get_or, take, drop, refl, sym, ap, ◌∙◌, arith, ◌↔◌, add-one, length-drop}
use Rattle.std.specs.Prelude.{Option, None, Some, fold, max, nat_le, ◌&&◌, ◌||◌, codes}
use Rattle.std.specs.List.{list_all, prefix_len, cons_option, between}
use Rattle.std.specs.Char.{is_ascii_digit}
use Rattle.std.specs.Str.Iter.{HasSubslice}
use Rattle.std.proofs.lemmas.Bool.{leb-true, le-leb, lt-leb, or_right, and_parts}
use Rattle.std.proofs.lemmas.List.{take_all, at_drop_more}
use Rattle.std.proofs.Math.Nat.{pow-le-pow_right}
use Rattle.std.proofs.lemmas.Bool.Decides.{Decides-eqb}
use Rattle.std.proofs.lemmas.Slice.Eq.{starts_is}
use Rattle.cov_text.specs.Listing.{begins_with}
use Rattle.cov_text.proofs.Bools.{same-tests}
use Rattle.istanbul_rules.specs.Ignored.{contains, nexts, next_here, spelt, number_before_end}

begins-front : (front text : List ℕ) → begins_with front text ≡ true → text ≡ front ++ drop (length front) text
begins-front front text e = (starts_is Decides-eqb text front (begins_with front text) refl).0 e

begins-from : (front rest : List ℕ) → begins_with front (front ++ rest) ≡ true
begins-from front rest = (starts_is Decides-eqb (front ++ rest) front (begins_with front (front ++ rest)) refl).1 rest refl

stands_in : (comment line : List ℕ) → contains comment line ≡ true → HasSubslice line comment
stands_in comment [] e =
    let by : (t : Bool) → begins_with comment [] ≡ t → (t || false) ≡ true → HasSubslice [] comment = elim [
      | true ↦ λ is _. ([], drop (length comment) [], begins-front comment [] is)
      | false ↦ λ is no_. cc
    ] in
    by (begins_with comment []) refl e
stands_in comment (b ∷ line) e =
    let by : (t : Bool) → begins_with comment (b ∷ line) ≡ t → (t || contains comment line) ≡ true → HasSubslice (b ∷ line) comment = elim [
      | true ↦ λ is _. ([], drop (length comment) (b ∷ line), begins-front comment (b ∷ line) is)
      | false ↦ λ is later. let s = stands_in comment line later in (b ∷ s.0, s.1, ap (λ bs. b ∷ bs) s.2)
    ] in
    by (begins_with comment (b ∷ line)) refl e

contained_here : (comment line : List ℕ) → begins_with comment line ≡ true → contains comment line ≡ true
contained_here comment [] e = ap (λ t. t || false) e
contained_here comment (b ∷ line) e = ap (λ t. t || contains comment line) e

contained : (comment front rest : List ℕ) → contains comment (front ++ (comment ++ rest)) ≡ true
contained comment [] rest = contained_here comment (comment ++ rest) (begins-from comment rest)
contained comment (b ∷ front) rest = or_right (begins_with comment (b ∷ (front ++ (comment ++ rest)))) (contains comment (front ++ (comment ++ rest))) (contained comment front rest)

pub contains_is : (r : Bool) (comment line : List ℕ) → (r ≡ true) ↔ HasSubslice line comment → r ≡ contains comment line
contains_is r comment line is =
    same-tests r (contains comment line)
    (λ yes_. let s = is.0 yes_ in ap (contains comment) s.2 ∙ contained comment s.0 s.1)
    (λ yes_. is.1 (stands_in comment line yes_))

-- ---- numbers

pub digits_before : (bytes : List ℕ) → list_all is_ascii_digit (take (prefix_len is_ascii_digit bytes) bytes) ≡ true
digits_before [] = refl
digits_before (b ∷ bytes) =
    let by : (t : Bool) → is_ascii_digit b ≡ t → list_all is_ascii_digit (take (cond t (1 + prefix_len is_ascii_digit bytes) 0) (b ∷ bytes)) ≡ true = elim [
      | true ↦ λ is.
          let n : 1 + prefix_len is_ascii_digit bytes ≡ suc (prefix_len is_ascii_digit bytes) = omega arith in
          ap (λ k. list_all is_ascii_digit (take k (b ∷ bytes))) n ∙ (λ i. is i && digits_before bytes i)
      | false ↦ λ is. refl
    ] in
    by (is_ascii_digit b) refl

-- the next comments of a line, from one place on
whole_rest : (line : List ℕ) (i : ℕ) → take (length line - i) (drop i line) ≡ drop i line
whole_rest line i = take_all (length line - i) (drop i line) (simp length-drop (omega arith))

abbrev more : ℕ → ℕ → ℕ
more a n = max a (suc n)

nexts-from : (line : List ℕ) (i : ℕ) → i < length line → nexts (drop i line) ≡ cons_option (next_here (drop i line)) (nexts (drop (i + 1) line))
nexts-from line i lt =
    at_drop_more nexts line i 0 lt
    ∙ ap (λ rest. cons_option (next_here rest) (nexts (drop (i + 1) line))) (sym (at_drop_more (λ bs. bs) line i 0 lt))

-- a next comment begins here
pub covered_more : (line : List ℕ) (i n most result total : ℕ) → i < length line → Some n ≡ next_here (take (length line - i) (drop i line)) → result ≡ max most (n + 1)
    → fold (λ a n. max a (suc n)) most (nexts (drop i line)) ≡ total → fold (λ a n. max a (suc n)) result (nexts (drop (i + 1) line)) ≡ total
covered_more line i n most result total lt here is so_far =
    let rest = nexts (drop (i + 1) line) in
    let found : next_here (drop i line) ≡ Some n = ap next_here (sym (whole_rest line i)) ∙ sym here in
    ap (λ a. fold (λ a n. max a (suc n)) a rest) (is ∙ ap (max most) (add-one n))
    ∙ sym (ap (fold (λ a n. max a (suc n)) most) (nexts-from line i lt ∙ ap (λ o. cons_option o rest) found))
    ∙ so_far

-- none does
pub covered_same : (line : List ℕ) (i most result total : ℕ) → i < length line → None ≡ next_here (take (length line - i) (drop i line)) → result ≡ most
    → fold (λ a n. max a (suc n)) most (nexts (drop i line)) ≡ total → fold (λ a n. max a (suc n)) result (nexts (drop (i + 1) line)) ≡ total
covered_same line i most result total lt here is so_far =
    let rest = nexts (drop (i + 1) line) in
    let found : next_here (drop i line) ≡ None = ap next_here (sym (whole_rest line i)) ∙ sym here in
    ap (λ a. fold (λ a n. max a (suc n)) a rest) is
    ∙ sym (ap (fold (λ a n. max a (suc n)) most) (nexts-from line i lt ∙ ap (λ o. cons_option o rest) found))
    ∙ so_far

-- ---- the number of a next comment

abbrev number_if : Bool → Bool → Bool → List ℕ → Option ℕ
number_if some few ended digits = cond (some && (few && ended)) (Some (spelt digits)) None

abbrev number_with : ℕ → List ℕ → Option ℕ
number_with n bytes = number_if (nat_le 1 n) (nat_le n 9) (begins_with (codes " */") (drop n bytes)) (between 0 n bytes)

pub no_digit : (bytes : List ℕ) (n : ℕ) → n ≡ prefix_len is_ascii_digit bytes → n ≡ 0 → None ≡ number_before_end bytes
no_digit bytes n is none =
    sym (ap (λ k. number_with k bytes) (sym is) ∙ ap (λ t. number_if t (nat_le n 9) (begins_with (codes " */") (drop n bytes)) (between 0 n bytes)) (lt-leb 1 n (omega arith)))

none_if : (some ended : Bool) (digits : List ℕ) → number_if some false ended digits ≡ None
none_if true ended digits = refl
none_if false ended digits = refl

none_if_not_ended : (some few : Bool) (digits : List ℕ) → number_if some few false digits ≡ None
none_if_not_ended true true digits = refl
none_if_not_ended true false digits = refl
none_if_not_ended false few digits = refl

pub many_digits : (bytes : List ℕ) (n : ℕ) → n ≡ prefix_len is_ascii_digit bytes → 9 < n → None ≡ number_before_end bytes
many_digits bytes n is many =
    sym (ap (λ k. number_with k bytes) (sym is)
    ∙ ap (λ t. number_if (nat_le 1 n) t (begins_with (codes " */") (drop n bytes)) (between 0 n bytes)) (lt-leb n 9 many)
    ∙ none_if (nat_le 1 n) (begins_with (codes " */") (drop n bytes)) (between 0 n bytes))

pub not_ended : (bytes : List ℕ) (n : ℕ) → n ≡ prefix_len is_ascii_digit bytes → begins_with (codes " */") (take (length bytes - n) (drop n bytes)) ≡ false
    → None ≡ number_before_end bytes
not_ended bytes n is no_ =
    let e : begins_with (codes " */") (drop n bytes) ≡ false = ap (begins_with (codes " */")) (sym (whole_rest bytes n)) ∙ no_ in
    sym (ap (λ k. number_with k bytes) (sym is)
    ∙ ap (λ t. number_if (nat_le 1 n) (nat_le n 9) t (between 0 n bytes)) e
    ∙ none_if_not_ended (nat_le 1 n) (nat_le n 9) (between 0 n bytes))

pub number_there : (bytes : List ℕ) (n number : ℕ) → n ≡ prefix_len is_ascii_digit bytes → (n ≡ 0 → ⊥) → n ≤ 9
    → begins_with (codes " */") (take (length bytes - n) (drop n bytes)) ≡ true → number ≡ spelt (take n bytes) → Some number ≡ number_before_end bytes
number_there bytes n number is some few ended value =
    let e : begins_with (codes " */") (drop n bytes) ≡ true = ap (begins_with (codes " */")) (sym (whole_rest bytes n)) ∙ ended in
    let a : nat_le 1 n ≡ true = le-leb 1 n (omega arith) in
    let b : nat_le n 9 ≡ true = le-leb n 9 few in
    let k : n ≡ n - 0 = omega arith in
    ap Some (value ∙ ap (λ j. spelt (take j bytes)) k)
    ∙ sym (ap (λ k. number_with k bytes) (sym is) ∙ (λ i. number_if (a i) (b i) (e i) (between 0 n bytes)))

digit_below : (ds : List ℕ) (i : ℕ) → list_all is_ascii_digit ds ≡ true → i < length ds → get_or ds i 0 - 48 ≤ 9
digit_below [] i all lt = absurd (omega arith)
digit_below (d ∷ ds) zero all lt =
    let first = and_parts (is_ascii_digit d) (list_all is_ascii_digit ds) all in
    let top = leb-true d 57 (and_parts (nat_le 48 d) (nat_le d 57) first.0).1 in
    omega arith
digit_below (d ∷ ds) (suc i) all lt = digit_below ds i (and_parts (is_ascii_digit d) (list_all is_ascii_digit ds) all).1 (omega arith)

-- nine digits spell a number of 32 bits
pub number_fits : (ds : List ℕ) (n i : ℕ) → list_all is_ascii_digit ds ≡ true → length ds ≤ 9 → i < length ds → n < 10 ^ i → 10 * n + (get_or ds i 0 - 48) < 4294967296
number_fits ds n i all few lt small =
    let digit = digit_below ds i all lt in
    let power : 10 ^ i ≤ 10 ^ 8 = pow-le-pow_right {n = 10} (omega arith) {i = i} {j = 8} (omega arith) in
    omega arith

prefix_short : (bytes : List ℕ) → prefix_len is_ascii_digit bytes ≤ length bytes
prefix_short [] = omega arith
prefix_short (b ∷ bytes) =
    elim (is_ascii_digit b) as (λ t. cond t (1 + prefix_len is_ascii_digit bytes) 0 ≤ suc (length bytes)) [
      | true ↦ let r = prefix_short bytes in omega arith
      | false ↦ omega arith
    ]

pub prefix_within : (bytes : List ℕ) (n : ℕ) → n ≡ prefix_len is_ascii_digit bytes → n ≤ length bytes
prefix_within bytes n is = let r = prefix_short bytes in omega arith

pub numbered_here : (bytes : List ℕ) (found : Option ℕ) → begins_with (codes "/* c8 ignore next */") bytes ≡ false → begins_with (codes "/* c8 ignore next ") bytes ≡ true
    → found ≡ number_before_end (take (length bytes - 18) (drop 18 bytes)) → found ≡ next_here bytes
numbered_here bytes found no_ yes_ is =
    is ∙ ap number_before_end (whole_rest bytes 18)
    ∙ sym (ap (λ t. cond t (Some 1) (cond (begins_with (codes "/* c8 ignore next ") bytes) (number_before_end (drop 18 bytes)) None)) no_
    ∙ ap (λ t. cond t (number_before_end (drop 18 bytes)) None) yes_)
