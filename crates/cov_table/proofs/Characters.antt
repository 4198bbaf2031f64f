-- A text has as many characters as it is shown with.
use Rattle.std.proofs.Common.{◌≡◌, ℕ, ◌<◌, ◌≤◌, Bool, true, false, cond, List, [], ◌∷◌, ◌++◌, map, length, get_or, refl, sym, ap, ◌∙◌, ⊎_elim, suc, arith}
use Rattle.std.specs.Prelude.{nat_lt, ◌==◌, ◌||◌, ◌&&◌, chars}
use Rattle.std.specs.Str.{IsUtf8}
use Rattle.std.proofs.Math.Utf8.{encode, encodes, scalar, scalars}
use Rattle.std.proofs.lemmas.List.{append-nil, map-append, length-map}
use Rattle.std.proofs.lemmas.Str.{chars-encodes, encode_ascii, inside_one, encodes-chars, scalars-chars}
use Rattle.std.proofs.lemmas.Bool.{cases_lt, and_parts}
use Rattle.std.proofs.lemmas.Bool.Decides.{nat_tests}
use Rattle.cov_text.specs.Listing.{cleaned}

abbrev shown : ℕ → ℕ
shown b = cond (nat_lt b 32 || (b == 127)) 63 b

high_shown : (b : ℕ) → 128 ≤ b → shown b ≡ b
high_shown b h = grind (arith, nat_tests)

low_shown : (b : ℕ) → b < 128 → shown b < 128
low_shown b h = grind (arith, nat_tests)

-- bytes of no ASCII character stay
all_high : (xs : List ℕ) → ((k : ℕ) → k < length xs → 128 ≤ get_or xs k 0) → map shown xs ≡ xs
all_high [] h = refl
all_high (x ∷ xs) h =
    ap (λ b. b ∷ map shown xs) (high_shown x (h 0 (omega arith)))
    ∙ ap (λ rest. x ∷ rest) (all_high xs (λ k l. h (suc k) (omega arith)))

high_byte : (c k : ℕ) → 128 ≤ c → k < length (encode c) → 128 ≤ get_or (encode c) k 0
high_byte c k high within =
    ⊎_elim (λ low. absurd (let e = inside_one c [] (encode c) k (sym (append-nil (encode c))) within low in let no : ⊥ = omega arith in no)) (λ ge. ge) (cases_lt (get_or (encode c) k 0) 128)

shown_encode : (c : ℕ) → map shown (encode c) ≡ encode (shown c)
shown_encode c =
    ⊎_elim (λ low. ap (map shown) (encode_ascii c low) ∙ sym (encode_ascii (shown c) (low_shown c low)))
    (λ high. all_high (encode c) (λ k within. high_byte c k high within) ∙ ap encode (sym (high_shown c high))) (cases_lt c 128)

shown_encodes : (cs : List ℕ) → map shown (encodes cs) ≡ encodes (map shown cs)
shown_encodes [] = refl
shown_encodes (c ∷ cs) =
    map-append shown (encode c) (encodes cs)
    ∙ ap (λ front. front ++ map shown (encodes cs)) (shown_encode c)
    ∙ ap (λ rest. encode (shown c) ++ rest) (shown_encodes cs)

shown_scalar : (c : ℕ) → scalar c ≡ true → scalar (shown c) ≡ true
shown_scalar c h = by (nat_lt c 32 || (c == 127))
  where
    by : (b : Bool) → scalar (cond b 63 c) ≡ true
    by true = refl
    by false = h

shown_scalars : (cs : List ℕ) → scalars cs ≡ true → scalars (map shown cs) ≡ true
shown_scalars [] h = refl
shown_scalars (c ∷ cs) h =
    let p = and_parts (scalar c) (scalars cs) h in
    ap (λ b. b && scalars (map shown cs)) (shown_scalar c p.0) ∙ shown_scalars cs p.1

pub same_characters : (bs : List ℕ) → IsUtf8 bs → length (chars bs) ≡ length (chars (cleaned bs))
same_characters bs u =
    let cs = chars bs in
    let scalar = shown_scalars cs (scalars-chars bs u) in
    sym (length-map cs shown)
    ∙ ap length (sym (chars-encodes (map shown cs) scalar))
    ∙ ap (λ x. length (chars x)) (sym (shown_encodes cs) ∙ ap (map shown) (encodes-chars bs u))
