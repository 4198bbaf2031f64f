-- A worked example: a character of two units, CR LF, and a last line with no end.
use Rattle.std.specs.Prelude.{◌≡◌, ℕ, List, [], ◌∷◌, length, None, Some}
use Rattle.utf16_lines.specs.declared.Spot.{Spot}
use Rattle.utf16_lines.specs.Lines.{units, lines, span, place_of, offset_of}

-- x="😀";, CR, LF, yz
abbrev pub two_lines : List ℕ
two_lines = 120 ∷ 61 ∷ 34 ∷ 240 ∷ 159 ∷ 152 ∷ 128 ∷ 34 ∷ 59 ∷ 13 ∷ 10 ∷ 121 ∷ 122 ∷ []

abbrev pub spot : ℕ → ℕ → Spot
spot line column = record { line = line; column = column }

abbrev pub EmojiAndLineEnd : Type 0
EmojiAndLineEnd =
    (length (units two_lines) ≡ 11)
    × (lines two_lines ≡ span 0 7 ∷ span 9 11 ∷ [])
    × (place_of 11 (lines two_lines) 5 ≡ Some (spot 0 5))
    × (place_of 11 (lines two_lines) 8 ≡ Some (spot 0 7))
    × (place_of 11 (lines two_lines) 11 ≡ Some (spot 1 2))
    × (place_of 11 (lines two_lines) 12 ≡ None)
    × (offset_of (lines two_lines) (spot 1 2) ≡ Some 11)
    × (offset_of (lines two_lines) (spot 1 3) ≡ None)
    × (lines [] ≡ [])
