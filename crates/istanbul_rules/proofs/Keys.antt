-- Keys that are places in decimal rise.
use Rattle.std.proofs.Common.{◌≡◌, ℕ, zero, suc, ◌+◌, ◌/◌, ◌%◌, ◌^◌, ◌<◌, ◌≤◌, cond, List, [], ◌∷◌, ◌++◌, length, refl, sym, ap, ◌∙◌, arith, inl, inr, length-append, append_assoc}
use Rattle.std.specs.Prelude.{◌==◌, decimal}
use Rattle.std.specs.List.{AllByRecursion}
use Rattle.std.specs.declared.cmp.Ordering.{Ordering}
use Rattle.std.specs.declared.cmp.Ordering.TheVariants.{Less, Equal, Greater}
use Rattle.std.specs.Ordering.{nat_cmp, ordering_then, match_ordering}
use Rattle.std.specs.BTreeSet.{insert_key}
use Rattle.std.proofs.lemmas.Bool.{cases_lt, le-ltb, lt-ltb, ne_eqb, eq-eqb}
use Rattle.std.proofs.lemmas.List.{append-nil}
use Rattle.std.proofs.lemmas.Fmt.{decimal_digit, decimal_step, decimal_nonempty}
use Rattle.cov_text.specs.Listing.{text_cmp, inserted}
use Rattle.istanbul_json.specs.Kept.{key_cmp, by_key}
use Rattle.istanbul_rules.specs.File.{keyed}
use Rattle.istanbul_rules.proofs.Keyed.{length-keyed}

cmp_less : (x y : ℕ) → x < y → nat_cmp x y ≡ Less
cmp_less x y lt = ap (λ t. cond t Less (cond (x == y) Equal Greater)) (lt-ltb x y lt)

cmp_greater : (x y : ℕ) → y < x → nat_cmp x y ≡ Greater
cmp_greater x y lt = ap (λ t. cond t Less (cond (x == y) Equal Greater)) (le-ltb x y (omega arith)) ∙ ap (λ t. cond t Equal Greater) (ne_eqb x y (λ e. omega arith))

cmp_equal : (x y : ℕ) → x ≡ y → nat_cmp x y ≡ Equal
cmp_equal x y e =
    ap (λ t. cond t Less (cond (x == y) Equal Greater)) (le-ltb x y (omega arith))
    ∙ ap (λ t. cond t Equal Greater) (eq-eqb x y e)

-- texts of one front are compared by their last bytes
last_greater : (a : List ℕ) (x y : ℕ) → y < x → text_cmp (a ++ x ∷ []) (a ++ y ∷ []) ≡ Greater
last_greater [] x y lt = ap (λ o. ordering_then o Equal) (cmp_greater x y lt)
last_greater (p ∷ a) x y lt = ap (λ o. ordering_then o (text_cmp (a ++ x ∷ []) (a ++ y ∷ []))) (cmp_equal p p refl) ∙ last_greater a x y lt

-- and texts of fronts of one length by these, where one is greater
front_greater : (a b : List ℕ) (x y : ℕ) → length a ≡ length b → text_cmp a b ≡ Greater → text_cmp (a ++ x ∷ []) (b ++ y ∷ []) ≡ Greater
front_greater [] [] x y same e = cc
front_greater [] (q ∷ b) x y same e = absurd (omega arith)
front_greater (p ∷ a) [] x y same e = absurd (omega arith)
front_greater (p ∷ a) (q ∷ b) x y same e =
    let by : (o : Ordering) → nat_cmp p q ≡ o → ordering_then o (text_cmp (a ++ x ∷ []) (b ++ y ∷ [])) ≡ Greater = elim [
      | Less ↦ λ is. let bad : Less ≡ Greater = ap (λ o. ordering_then o (text_cmp a b)) (sym is) ∙ e in cc
      | Equal ↦ λ is. front_greater a b x y (omega arith) (ap (λ o. ordering_then o (text_cmp a b)) (sym is) ∙ e)
      | Greater ↦ λ is. refl
    ] in
    by (nat_cmp p q) refl

longer : (a b : List ℕ) → length b < length a → key_cmp a b ≡ Greater
longer a b lt = ap (λ o. ordering_then o (text_cmp a b)) (cmp_greater (length a) (length b) lt)

as_long : (a b : List ℕ) → length a ≡ length b → key_cmp a b ≡ text_cmp a b
as_long a b same = ap (λ o. ordering_then o (text_cmp a b)) (cmp_equal (length a) (length b) same)

-- one more byte each keeps the order
greater_more : (a b : List ℕ) (x y : ℕ) → key_cmp a b ≡ Greater → key_cmp (a ++ x ∷ []) (b ++ y ∷ []) ≡ Greater
greater_more a b x y e =
    let la = length-append a (x ∷ []) in
    let lb = length-append b (y ∷ []) in
    elim (cases_lt (length b) (length a)) [
      | inl lt ↦ longer (a ++ x ∷ []) (b ++ y ∷ []) (omega arith)
      | inr le ↦ elim (cases_lt (length a) (length b)) [
        | inl lt ↦ let bad : Less ≡ Greater = sym (ap (λ o. ordering_then o (text_cmp a b)) (cmp_less (length a) (length b) lt)) ∙ e in cc
        | inr ge ↦
            let same : length a ≡ length b = omega arith in
            as_long (a ++ x ∷ []) (b ++ y ∷ []) (omega arith) ∙ front_greater a b x y same (sym (as_long a b same) ∙ e)
      ]
    ]

greater_last : (a : List ℕ) (x y : ℕ) → y < x → key_cmp (a ++ x ∷ []) (a ++ y ∷ []) ≡ Greater
greater_last a x y lt =
    let la = length-append a (x ∷ []) in
    let lb = length-append a (y ∷ []) in
    as_long (a ++ x ∷ []) (a ++ y ∷ []) (omega arith) ∙ last_greater a x y lt

-- the decimals of rising numbers rise
decimals_rise : (k m n : ℕ) → n ≤ k → m < n → n < 2 ^ 64 → key_cmp (decimal n) (decimal m) ≡ Greater
decimals_rise zero m n le lt fits = absurd (omega arith)
decimals_rise (suc k) m n le lt fits =
    elim (cases_lt n 10) [
      | inl small ↦
          let a = decimal_digit n small in
          let b = decimal_digit m (omega arith) in
          (λ i. key_cmp (a i) (b i)) ∙ greater_last [] (48 + n) (48 + m) (omega arith)
      | inr large ↦
          let a = decimal_step n large fits in
          elim (cases_lt m 10) [
            | inl small ↦
                let b = decimal_digit m small in
                let some = decimal_nonempty (n / 10) (omega arith) in
                let la = length-append (decimal (n / 10)) ((48 + n % 10) ∷ []) in
                (λ i. key_cmp (a i) (b i)) ∙ longer (decimal (n / 10) ++ (48 + n % 10) ∷ []) ((48 + m) ∷ []) (omega arith)
            | inr other ↦
                let b = decimal_step m other (omega arith) in
                elim (cases_lt (m / 10) (n / 10)) [
                  | inl below ↦
                      (λ i. key_cmp (a i) (b i))
                      ∙ greater_more (decimal (n / 10)) (decimal (m / 10)) (48 + n % 10) (48 + m % 10) (decimals_rise k (m / 10) (n / 10) (omega arith) below (omega arith))
                  | inr above ↦
                      let same : m / 10 ≡ n / 10 = omega arith in
                      let c : decimal m ≡ decimal (n / 10) ++ (48 + m % 10) ∷ [] = b ∙ ap (λ q. decimal q ++ (48 + m % 10) ∷ []) same in
                      (λ i. key_cmp (a i) (c i)) ∙ greater_last (decimal (n / 10)) (48 + n % 10) (48 + m % 10) (omega arith)
                ]
          ]
    ]

-- ---- lists with such keys

insert_last : {A : Type 0} (cmp : A → A → Ordering) (ks : List A) (x : A) → AllByRecursion (λ k. cmp x k ≡ Greater) ks → insert_key cmp ks x ≡ ks ++ x ∷ []
insert_last cmp [] x above = refl
insert_last cmp (k ∷ ks) x above =
    ap (λ o. match_ordering o (x ∷ k ∷ ks) (k ∷ ks) (k ∷ insert_key cmp ks x)) above.0 ∙ ap (λ rest. k ∷ rest) (insert_last cmp ks x above.1)

-- the key is the decimal of a number below n
abbrev KeyBelow : {C : Type 0} → (C → List ℕ) → ℕ → C → Type 0
KeyBelow key n y = (i : ℕ) × (i < n) × (key y ≡ decimal i)

all_above : {C : Type 0} (key : C → List ℕ) (n : ℕ) (x : C) (ks : List C) → n < 2 ^ 64 → key x ≡ decimal n → AllByRecursion (KeyBelow key n) ks
    → AllByRecursion (λ k. key_cmp (key x) (key k) ≡ Greater) ks
all_above key n x [] fits is below = tt
all_above key n x (k ∷ ks) fits is below =
    let lower = below.0 in
    ((λ i. key_cmp (is i) (lower.2 i)) ∙ decimals_rise n lower.0 n (omega arith) lower.1 fits, all_above key n x ks fits is below.1)

all_below : {C : Type 0} (key : C → List ℕ) (n : ℕ) (x : C) (ks : List C) → key x ≡ decimal n → AllByRecursion (KeyBelow key n) ks
    → AllByRecursion (KeyBelow key (n + 1)) (ks ++ x ∷ [])
all_below key n x [] is below = ((n, omega arith, is), tt)
all_below key n x (k ∷ ks) is below =
    let lower = below.0 in
    let lt : lower.0 < n = lower.1 in
    ((lower.0, omega arith, lower.2), all_below key n x ks is below.1)

inserted_keyed : {A C : Type 0} (f : List ℕ → A → C) (key : C → List ℕ) → ((k : List ℕ) (x : A) → key (f k x) ≡ k) → (n : ℕ) (ks : List C) (xs : List A)
    → n + length xs ≤ 2 ^ 64 → AllByRecursion (KeyBelow key n) ks → inserted (λ x y. key_cmp (key x) (key y)) ks (keyed f n xs) ≡ ks ++ keyed f n xs
inserted_keyed f key keys n ks [] fits below = sym (append-nil ks)
inserted_keyed f key keys n ks (x ∷ xs) fits below =
    let y = f (decimal n) x in
    let is = keys (decimal n) x in
    ap (λ zs. inserted (λ x y. key_cmp (key x) (key y)) zs (keyed f (n + 1) xs)) (insert_last (λ x y. key_cmp (key x) (key y)) ks y (all_above key n y ks (omega arith) is below))
    ∙ inserted_keyed f key keys (n + 1) (ks ++ y ∷ []) xs (omega arith) (all_below key n y ks is below)
    ∙ append_assoc ks (y ∷ []) (keyed f (n + 1) xs)

-- a list whose keys are its places stands in the order of its keys
pub by_key-keyed : {A C : Type 0} (f : List ℕ → A → C) (key : C → List ℕ) → ((k : List ℕ) (x : A) → key (f k x) ≡ k) → (xs : List A)
    → length xs ≤ 2 ^ 64 → by_key key (keyed f 0 xs) ≡ keyed f 0 xs
by_key-keyed f key keys xs fits = inserted_keyed f key keys 0 [] xs (omega arith) tt

pub keyed_in_order : {A C : Type 0} (f : List ℕ → A → C) (key : C → List ℕ) → ((k : List ℕ) (x : A) → key (f k x) ≡ k) → (xs : List A) (ys : List C)
    → ys ≡ keyed f 0 xs → length ys ≤ 2 ^ 64 → by_key key ys ≡ ys
keyed_in_order f key keys xs ys is fits =
    let count : length ys ≡ length xs = ap length is ∙ length-keyed f 0 xs in
    ap (by_key key) is ∙ by_key-keyed f key keys xs (omega arith) ∙ sym is
