-- What the scan of a text's bytes finds.
use Rattle.std.specs.Prelude.{◌≡◌, ℕ, ◌+◌, ◌-◌, ◌<◌, ◌≤◌, Bool, false, List, [], ◌∷◌, nat_lt, ◌==◌, if◌then◌else◌, Result, Ok, Err}
use Rattle.utf16_lines.specs.declared.Span.{Span}
use Rattle.utf16_lines.specs.declared.LengthFault.{LengthFault}
use Rattle.utf16_lines.specs.declared.LengthFault.TheVariants.{TooLong, NoMemory}
use Rattle.utf16_lines.specs.Lines.{span, lines_of_lengths, units_of_lengths, most_units}

-- how many units a byte of UTF-8 brings: a first byte those of its character, another none
abbrev pub units_at : ℕ → ℕ
units_at b = if nat_lt b 128 then 1 else if nat_lt b 192 then 0 else if nat_lt b 240 then 1 else 2

abbrev pub units_in : List ℕ → ℕ
units_in [] = 0
units_in (b ∷ bytes) = units_at b + units_in bytes

-- the spans of the lines, from the byte on that begins at the unit `at`
abbrev pub scanned : ℕ → Bool → ℕ → List ℕ → List Span
scanned start cr at [] = if start == at then [] else span start at ∷ []
scanned start cr at (b ∷ bytes) =
    if b == 10 then span start (if cr then at - 1 else at) ∷ scanned (at + 1) false (at + 1) bytes
    else scanned start (b == 13) (at + units_at b) bytes

-- the lines of lengths and their units, or that these are too many
abbrev pub IsScanOfLengths : List ℕ → Result (List Span × ℕ) LengthFault → Type 0
IsScanOfLengths lengths (Ok found) = (found.0 ≡ lines_of_lengths 0 lengths) × (found.1 ≡ units_of_lengths lengths) × (found.1 ≤ most_units)
IsScanOfLengths lengths (Err TooLong) = most_units < units_of_lengths lengths
IsScanOfLengths lengths (Err NoMemory) = Unit {0}
