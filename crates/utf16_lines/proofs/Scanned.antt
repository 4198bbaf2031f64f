-- The scan of a text's bytes finds the lines of its units, and their number.
use Rattle.std.proofs.Common.{subst₂, ◌≡◌, ℕ, ◌+◌, ◌-◌, ◌/◌, ◌%◌, ◌<◌, ◌≤◌, Bool, false, cond, List, [], ◌∷◌, ◌++◌, length, refl, sym, ap, ◌∙◌, arith, inl, inr, length-append}
use Rattle.std.specs.Prelude.{nat_lt, ◌==◌, flat_map, chars}
use Rattle.std.specs.Str.{IsUtf8}
use Rattle.std.specs.Char.Escape.{encode_utf16}
use Rattle.std.proofs.Math.Utf8.{encode, encodes}
use Rattle.std.proofs.lemmas.Bool.{cases_lt, lt-ltb, le-ltb, ne_eqb}
use Rattle.std.proofs.lemmas.Str.{encodes-chars}
use Rattle.utf16_lines.specs.declared.Span.{Span}
use Rattle.utf16_lines.specs.Lines.{span, units, lines, spans_from}
use Rattle.utf16_lines.specs.Scan.{units_at, units_in, scanned}

abbrev ends : ℕ → Bool → ℕ → Span
ends start cr at = span start (cond cr (at - 1) at)

-- a byte of no ASCII character brings its units and ends no line
no_end : (start at b : ℕ) (cr : Bool) (rest : List ℕ) → 128 ≤ b → scanned start cr at (b ∷ rest) ≡ scanned start false (at + units_at b) rest
no_end start at b cr rest high =
    let ten : (b == 10) ≡ false = ne_eqb b 10 (λ e. omega arith) in
    let thirteen : (b == 13) ≡ false = ne_eqb b 13 (λ e. omega arith) in
    ap (λ t. cond t (ends start cr at ∷ scanned (at + 1) false (at + 1) rest) (scanned start (b == 13) (at + units_at b) rest)) ten
    ∙ ap (λ t. scanned start t (at + units_at b) rest) thirteen

-- neither does such a unit
no_end_unit : (start at u : ℕ) (cr : Bool) (us : List ℕ) → 128 ≤ u → spans_from start cr at (u ∷ us) ≡ spans_from start false (at + 1) us
no_end_unit start at u cr us high =
    let ten : (u == 10) ≡ false = ne_eqb u 10 (λ e. omega arith) in
    let thirteen : (u == 13) ≡ false = ne_eqb u 13 (λ e. omega arith) in
    ap (λ t. cond t (ends start cr at ∷ spans_from (at + 1) false (at + 1) us) (spans_from start (u == 13) (at + 1) us)) ten
    ∙ ap (λ t. spans_from start t (at + 1) us) thirteen

ascii_units : (b : ℕ) → b < 128 → units_at b ≡ 1
ascii_units b lt = ap (λ t. cond t 1 (cond (nat_lt b 192) 0 (cond (nat_lt b 240) 1 2))) (lt-ltb b 128 lt)

later_units : (b : ℕ) → 128 ≤ b → b < 192 → units_at b ≡ 0
later_units b ge lt = ap (λ t. cond t 1 (cond (nat_lt b 192) 0 (cond (nat_lt b 240) 1 2))) (le-ltb b 128 ge) ∙ ap (λ t. cond t 0 (cond (nat_lt b 240) 1 2)) (lt-ltb b 192 lt)

first_units : (b : ℕ) → 192 ≤ b → b < 240 → units_at b ≡ 1
first_units b ge lt =
    ap (λ t. cond t 1 (cond (nat_lt b 192) 0 (cond (nat_lt b 240) 1 2))) (le-ltb b 128 (omega arith))
    ∙ ap (λ t. cond t 0 (cond (nat_lt b 240) 1 2)) (le-ltb b 192 ge) ∙ ap (λ t. cond t 1 2) (lt-ltb b 240 lt)

pair_units : (b : ℕ) → 240 ≤ b → units_at b ≡ 2
pair_units b ge =
    ap (λ t. cond t 1 (cond (nat_lt b 192) 0 (cond (nat_lt b 240) 1 2))) (le-ltb b 128 (omega arith))
    ∙ ap (λ t. cond t 0 (cond (nat_lt b 240) 1 2)) (le-ltb b 192 (omega arith)) ∙ ap (λ t. cond t 1 2) (le-ltb b 240 ge)

-- a later byte of a character changes nothing
later : (start at b : ℕ) (rest : List ℕ) → 128 ≤ b → b < 192 → scanned start false at (b ∷ rest) ≡ scanned start false at rest
later start at b rest ge lt = no_end start at b false rest ge ∙ ap (λ n. scanned start false n rest) (let e = later_units b ge lt in let r : at + units_at b ≡ at = omega arith in r)

first : (start at b : ℕ) (cr : Bool) (rest : List ℕ) → 192 ≤ b → b < 240 → scanned start cr at (b ∷ rest) ≡ scanned start false (at + 1) rest
first start at b cr rest ge lt = no_end start at b cr rest (omega arith) ∙ ap (λ n. scanned start false (at + n) rest) (first_units b ge lt)

pair : (start at b : ℕ) (cr : Bool) (rest : List ℕ) → 240 ≤ b → scanned start cr at (b ∷ rest) ≡ scanned start false (at + 2) rest
pair start at b cr rest ge = no_end start at b cr rest (omega arith) ∙ ap (λ n. scanned start false (at + n) rest) (pair_units b ge)

-- a later byte, as UTF-8 writes six bits
abbrev six : ℕ → ℕ
six n = 128 + n % 64

later_six : (start at n : ℕ) (rest : List ℕ) → scanned start false at (six n ∷ rest) ≡ scanned start false at rest
later_six start at n rest = let low : n % 64 < 64 = omega arith in later start at (six n) rest (omega arith) (omega arith)

-- what is scanned of the bytes that follow is what their units give
abbrev Agree : List ℕ → List ℕ → Type 0
Agree rest us = (start at : ℕ) (cr : Bool) → scanned start cr at rest ≡ spans_from start cr at us

one_byte : (c : ℕ) (rest us : List ℕ) → c < 128 → Agree rest us → Agree (c ∷ rest) (c ∷ us)
one_byte c rest us lt same start at cr =
    (λ i. cond (c == 10) (ends start cr at ∷ same (at + 1) (at + 1) false i) (scanned start (c == 13) (at + units_at c) rest))
    ∙ ap (λ n. cond (c == 10) (ends start cr at ∷ spans_from (at + 1) false (at + 1) us) (scanned start (c == 13) (at + n) rest)) (ascii_units c lt)
    ∙ (λ i. cond (c == 10) (ends start cr at ∷ spans_from (at + 1) false (at + 1) us) (same start (at + 1) (c == 13) i))

two_bytes : (c b n : ℕ) (rest us : List ℕ) → 128 ≤ c → 192 ≤ b → b < 240 → Agree rest us → Agree (b ∷ six n ∷ rest) (c ∷ us)
two_bytes c b n rest us high ge lt same start at cr =
    first start at b cr (six n ∷ rest) ge lt ∙ later_six start (at + 1) n rest ∙ same start (at + 1) false ∙ sym (no_end_unit start at c cr us high)

three_bytes : (c b m n : ℕ) (rest us : List ℕ) → 128 ≤ c → 192 ≤ b → b < 240 → Agree rest us → Agree (b ∷ six m ∷ six n ∷ rest) (c ∷ us)
three_bytes c b m n rest us high ge lt same start at cr =
    first start at b cr (six m ∷ six n ∷ rest) ge lt ∙ later_six start (at + 1) m (six n ∷ rest) ∙ later_six start (at + 1) n rest
    ∙ same start (at + 1) false ∙ sym (no_end_unit start at c cr us high)

four_bytes : (u v b l m n : ℕ) (rest us : List ℕ) → 128 ≤ u → 128 ≤ v → 240 ≤ b → Agree rest us → Agree (b ∷ six l ∷ six m ∷ six n ∷ rest) (u ∷ v ∷ us)
four_bytes u v b l m n rest us first_high second_high ge same start at cr =
    let two : at + 1 + 1 ≡ at + 2 = omega arith in
    pair start at b cr (six l ∷ six m ∷ six n ∷ rest) ge ∙ later_six start (at + 2) l (six m ∷ six n ∷ rest)
    ∙ later_six start (at + 2) m (six n ∷ rest) ∙ later_six start (at + 2) n rest ∙ same start (at + 2) false
    ∙ sym (no_end_unit start at u cr (v ∷ us) first_high ∙ no_end_unit start (at + 1) v false us second_high ∙ ap (λ n. spans_from start false n us) two)

-- the bytes of a character, and its units, by its size
encode_one : (c : ℕ) → c < 128 → encode c ≡ c ∷ []
unfolding encode
encode_one c lt = ap (λ t. cond t (c ∷ []) (cond (nat_lt c 2048) ((192 + c / 64) ∷ six c ∷ []) (cond (nat_lt c 65536) ((224 + c / 4096) ∷ six (c / 64) ∷ six c ∷ []) ((240 + c / 262144) ∷ six (c / 4096) ∷ six (c / 64) ∷ six c ∷ [])))) (lt-ltb c 128 lt)

encode_two : (c : ℕ) → 128 ≤ c → c < 2048 → encode c ≡ (192 + c / 64) ∷ six c ∷ []
unfolding encode
encode_two c ge lt =
    ap (λ t. cond t (c ∷ []) (cond (nat_lt c 2048) ((192 + c / 64) ∷ six c ∷ []) (cond (nat_lt c 65536) ((224 + c / 4096) ∷ six (c / 64) ∷ six c ∷ []) ((240 + c / 262144) ∷ six (c / 4096) ∷ six (c / 64) ∷ six c ∷ [])))) (le-ltb c 128 ge)
    ∙ ap (λ t. cond t ((192 + c / 64) ∷ six c ∷ []) (cond (nat_lt c 65536) ((224 + c / 4096) ∷ six (c / 64) ∷ six c ∷ []) ((240 + c / 262144) ∷ six (c / 4096) ∷ six (c / 64) ∷ six c ∷ []))) (lt-ltb c 2048 lt)

encode_more : (c : ℕ) → 2048 ≤ c → encode c ≡ cond (nat_lt c 65536) ((224 + c / 4096) ∷ six (c / 64) ∷ six c ∷ []) ((240 + c / 262144) ∷ six (c / 4096) ∷ six (c / 64) ∷ six c ∷ [])
unfolding encode
encode_more c ge =
    ap (λ t. cond t (c ∷ []) (cond (nat_lt c 2048) ((192 + c / 64) ∷ six c ∷ []) (cond (nat_lt c 65536) ((224 + c / 4096) ∷ six (c / 64) ∷ six c ∷ []) ((240 + c / 262144) ∷ six (c / 4096) ∷ six (c / 64) ∷ six c ∷ [])))) (le-ltb c 128 (omega arith))
    ∙ ap (λ t. cond t ((192 + c / 64) ∷ six c ∷ []) (cond (nat_lt c 65536) ((224 + c / 4096) ∷ six (c / 64) ∷ six c ∷ []) ((240 + c / 262144) ∷ six (c / 4096) ∷ six (c / 64) ∷ six c ∷ []))) (le-ltb c 2048 ge)

encode_three : (c : ℕ) → 2048 ≤ c → c < 65536 → encode c ≡ (224 + c / 4096) ∷ six (c / 64) ∷ six c ∷ []
encode_three c ge lt = encode_more c ge ∙ ap (λ t. cond t ((224 + c / 4096) ∷ six (c / 64) ∷ six c ∷ []) ((240 + c / 262144) ∷ six (c / 4096) ∷ six (c / 64) ∷ six c ∷ [])) (lt-ltb c 65536 lt)

encode_four : (c : ℕ) → 65536 ≤ c → encode c ≡ (240 + c / 262144) ∷ six (c / 4096) ∷ six (c / 64) ∷ six c ∷ []
encode_four c ge = encode_more c (omega arith) ∙ ap (λ t. cond t ((224 + c / 4096) ∷ six (c / 64) ∷ six c ∷ []) ((240 + c / 262144) ∷ six (c / 4096) ∷ six (c / 64) ∷ six c ∷ [])) (le-ltb c 65536 ge)

abbrev high_unit : ℕ → ℕ
high_unit c = 55296 + (c - 65536) / 1024

abbrev low_unit : ℕ → ℕ
low_unit c = 56320 + (c - 65536) % 1024

one_unit : (c : ℕ) → c < 65536 → encode_utf16 c ≡ c ∷ []
one_unit c lt = ap (λ t. cond t (c ∷ []) (high_unit c ∷ low_unit c ∷ [])) (lt-ltb c 65536 lt)

two_units : (c : ℕ) → 65536 ≤ c → encode_utf16 c ≡ high_unit c ∷ low_unit c ∷ []
two_units c ge = ap (λ t. cond t (c ∷ []) (high_unit c ∷ low_unit c ∷ [])) (le-ltb c 65536 ge)

-- any fact of a character's bytes and units
by_size : (P : List ℕ → List ℕ → Type 0) (c : ℕ)
    → (c < 128 → P (c ∷ []) (c ∷ []))
    → (128 ≤ c → c < 2048 → P ((192 + c / 64) ∷ six c ∷ []) (c ∷ []))
    → (2048 ≤ c → c < 65536 → P ((224 + c / 4096) ∷ six (c / 64) ∷ six c ∷ []) (c ∷ []))
    → (65536 ≤ c → P ((240 + c / 262144) ∷ six (c / 4096) ∷ six (c / 64) ∷ six c ∷ []) (high_unit c ∷ low_unit c ∷ []))
    → P (encode c) (encode_utf16 c)
by_size P c one two three four =
    let at : (bytes us : List ℕ) → encode c ≡ bytes → encode_utf16 c ≡ us → P bytes us → P (encode c) (encode_utf16 c) = λ bytes us e f p. subst₂ P (sym e) (sym f) p in
    elim (cases_lt c 128) [
      | inl lt ↦ at _ _ (encode_one c lt) (one_unit c (omega arith)) (one lt)
      | inr ge ↦
          elim (cases_lt c 2048) [
            | inl lt ↦ at _ _ (encode_two c ge lt) (one_unit c (omega arith)) (two ge lt)
            | inr more ↦
                elim (cases_lt c 65536) [
                  | inl lt ↦ at _ _ (encode_three c more lt) (one_unit c lt) (three more lt)
                  | inr most ↦ at _ _ (encode_four c most) (two_units c most) (four most)
                ]
          ]
    ]

one_character : (c : ℕ) (rest us : List ℕ) → Agree rest us → Agree (encode c ++ rest) (encode_utf16 c ++ us)
one_character c rest us same =
    by_size (λ bytes units. Agree (bytes ++ rest) (units ++ us)) c
    (λ lt. one_byte c rest us lt same)
    (λ ge lt. two_bytes c (192 + c / 64) c rest us ge (omega arith) (omega arith) same)
    (λ ge lt. three_bytes c (224 + c / 4096) (c / 64) c rest us (omega arith) (omega arith) (omega arith) same)
    (λ ge. four_bytes (high_unit c) (low_unit c) (240 + c / 262144) (c / 4096) (c / 64) c rest us (omega arith) (omega arith) (omega arith) same)

six_units : (n : ℕ) → units_at (six n) ≡ 0
six_units n = let low : n % 64 < 64 = omega arith in later_units (six n) (omega arith) (omega arith)

character_units : (c : ℕ) (rest : List ℕ) → units_in (encode c ++ rest) ≡ length (encode_utf16 c) + units_in rest
character_units c rest =
    by_size (λ bytes units. units_in (bytes ++ rest) ≡ length units + units_in rest) c
    (λ lt. omega (arith, ascii_units c lt))
    (λ ge lt. omega (arith, first_units (192 + c / 64) (omega arith) (omega arith), six_units c))
    (λ ge lt. omega (arith, first_units (224 + c / 4096) (omega arith) (omega arith), six_units c, six_units (c / 64)))
    (λ ge. omega (arith, pair_units (240 + c / 262144) (omega arith), six_units c, six_units (c / 64), six_units (c / 4096)))

scanned_encodes : (cs : List ℕ) → Agree (encodes cs) (flat_map encode_utf16 cs)
scanned_encodes [] start at cr = refl
scanned_encodes (c ∷ cs) start at cr = one_character c (encodes cs) (flat_map encode_utf16 cs) (scanned_encodes cs) start at cr

units_encodes : (cs : List ℕ) → units_in (encodes cs) ≡ length (flat_map encode_utf16 cs)
units_encodes [] = refl
units_encodes (c ∷ cs) = omega (arith, character_units c (encodes cs), units_encodes cs, length-append (encode_utf16 c) (flat_map encode_utf16 cs))

-- what a scan finds is the lines of the text, and its units
pub scanned-lines : (text : List ℕ) → IsUtf8 text → scanned 0 false 0 text ≡ lines text
unfolding lines units
scanned-lines text utf8 = ap (scanned 0 false 0) (sym (encodes-chars text utf8)) ∙ scanned_encodes (chars text) 0 0 false

pub units_in-units : (text : List ℕ) → IsUtf8 text → units_in text ≡ length (units text)
unfolding units
units_in-units text utf8 = ap units_in (sym (encodes-chars text utf8)) ∙ units_encodes (chars text)
