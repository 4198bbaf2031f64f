-- Base64 digits, and the whole numbers that they spell (base64 VLQ).
use Rattle.std.specs.Prelude.{◌≡◌, ℕ, ◌+◌, ◌-◌, ◌*◌, ◌<◌, Bool, ◌&&◌, List, [], ◌∷◌, nat_lt, nat_le, ◌==◌, if◌then◌else◌, Option, None, Some, Result, Ok}
use Rattle.vlq_mappings.specs.declared.VlqCause.TheVariants.{Digit, Cut}
use Rattle.vlq_mappings.specs.declared.VlqFault.{VlqFault}
use Rattle.vlq_mappings.specs.declared.values.Value.{Value}
use Rattle.vlq_mappings.specs.Faults.{◌>>=◌, fault, or_fault}

abbrev pub is_between : ℕ → ℕ → ℕ → Bool
is_between low high b = nat_le low b && nat_le b high

-- what a base64 digit is worth: `A` to `Z`, `a` to `z`, `0` to `9`, `+` and `/`
abbrev pub digit : ℕ → Option ℕ
digit b =
    if is_between 65 90 b then Some (b - 65)
    else (if is_between 97 122 b then Some (b - 71)
    else (if is_between 48 57 b then Some (b + 4) else (if b == 43 then Some 62 else (if b == 47 then Some 63 else None))))

-- Bytes that spell a whole number: each digit has five bits, the least first, and 32 says that another digit follows.
abbrev pub Spells : List ℕ → ℕ → Type 0
Spells [] whole = ⊥
Spells (b ∷ []) whole = (whole < 32) × (digit b ≡ Some whole)
Spells (b ∷ c ∷ bs) whole = (low : ℕ) × (high : ℕ) × (low < 32) × (digit b ≡ Some (low + 32)) × (whole ≡ low + 32 * high) × Spells (c ∷ bs) high

-- a whole number that is spelled from a place on
abbrev pub value : ℕ → ℕ → Value
value place whole = record { place = place; whole = whole }

-- A digit that says that another follows has the low bits of the value behind it. Behind the last digit there is none.
abbrev pub lengthened : ℕ → ℕ → List Value → Result (List Value) VlqFault
lengthened place low [] = fault (place + 1) Cut
lengthened place low (v ∷ vs) = Ok (value place (low + 32 * v.whole) ∷ vs)

-- the values that a digit and those behind it spell
abbrev pub with_digit : ℕ → ℕ → List Value → Result (List Value) VlqFault
with_digit place d vs = if nat_lt d 32 then Ok (value place d ∷ vs) else lengthened place (d - 32) vs

-- the values that the bytes from a place on spell
abbrev pub values : ℕ → List ℕ → Result (List Value) VlqFault
values place [] = Ok []
values place (b ∷ bs) = or_fault place Digit (digit b) >>= λ d. values (place + 1) bs >>= with_digit place d
