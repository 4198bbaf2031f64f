-- The first fault of a text, as a relation between bytes, a cause and a place.
use Rattle.std.specs.Prelude.{◌≡◌, ℕ, zero, suc, ◌+◌, ◌≤◌, ◌⊎◌, Bool, false, true, ◌||◌, ◌==◌, List, [], ◌∷◌, ◌++◌, length, None, Some, IsSome}
use Rattle.std.specs.List.{slice_split}
use Rattle.vlq_mappings.specs.declared.Segment.{Segment}
use Rattle.vlq_mappings.specs.declared.VlqCause.{VlqCause}
use Rattle.vlq_mappings.specs.declared.VlqCause.TheVariants.{Digit, Cut, Fields, Range}
use Rattle.vlq_mappings.specs.declared.VlqFault.{VlqFault}
use Rattle.vlq_mappings.specs.declared.VlqFault.TheVariants.{At, NoMemory}
use Rattle.vlq_mappings.specs.declared.last.Last.{Last}
use Rattle.vlq_mappings.specs.Digits.{digit, Spells}
use Rattle.vlq_mappings.specs.Mappings.{start, next_line, is_comma, is_semicolon}
use Rattle.vlq_mappings.specs.Grammar.{Leads, SpellsSegment, SpellsLine, last_numbers, behind, behind_line}

-- ---- a segment that begins at a place

abbrev pub AreDigits : List ℕ → Type 0
AreDigits [] = Unit {0}
AreDigits (b ∷ bs) = IsSome (digit b) × AreDigits bs

-- digits, and behind them a byte that is none
abbrev pub HasNoDigit : ℕ → List ℕ → ℕ → Type 0
HasNoDigit place bytes at = (front : List ℕ) × (b : ℕ) × (back : List ℕ) × (bytes ≡ front ++ (b ∷ back)) × AreDigits front × (digit b ≡ None) × (at ≡ place + length front)

-- digits, of which the last says that another follows
abbrev pub IsCut : ℕ → List ℕ → ℕ → Type 0
IsCut place bytes at = (front : List ℕ) × (b : ℕ) × (d : ℕ) × (bytes ≡ front ++ (b ∷ [])) × AreDigits front × (digit b ≡ Some d) × (32 ≤ d) × (at ≡ place + length bytes)

-- bytes that spell so many values
abbrev pub SpellsMany : List ℕ → ℕ → Type 0
SpellsMany bytes zero = bytes ≡ []
SpellsMany bytes (suc count) = (front : List ℕ) × (back : List ℕ) × (whole : ℕ) × (bytes ≡ front ++ back) × Spells front whole × SpellsMany back count

abbrev pub is_field_count : ℕ → Bool
is_field_count count = (count == 1) || ((count == 4) || (count == 5))

-- values, but not as many as a segment has
abbrev pub HasOtherCount : ℕ → List ℕ → ℕ → Type 0
HasOtherCount place bytes at = (count : ℕ) × SpellsMany bytes count × (is_field_count count ≡ false) × (at ≡ place)

-- values, of which the first that leads to no number begins at a place
abbrev pub LeadsOut : ℕ → List ℕ → List ℕ → ℕ → Type 0
LeadsOut place [] bytes at = ⊥
LeadsOut place (last ∷ lasts) bytes at =
    (front : List ℕ) × (back : List ℕ) × (whole : ℕ) × (bytes ≡ front ++ back) × Spells front whole
    × ((((n : ℕ) → Leads last front n → ⊥) × (at ≡ place)) ⊎ ((n : ℕ) × Leads last front n × LeadsOut (place + length front) lasts back at))

-- as many values as a segment has, of which one leads to no number
abbrev pub HasNoNumber : ℕ → Last → List ℕ → ℕ → Type 0
HasNoNumber place last bytes at = (count : ℕ) × SpellsMany bytes count × (is_field_count count ≡ true) × LeadsOut place (last_numbers last) bytes at

abbrev pub HasFault : ℕ → Last → List ℕ → VlqCause → ℕ → Type 0
HasFault place last bytes Digit at = HasNoDigit place bytes at
HasFault place last bytes Cut at = IsCut place bytes at
HasFault place last bytes Fields at = HasOtherCount place bytes at
HasFault place last bytes Range at = HasNoNumber place last bytes at

-- ---- a line and a text

-- the first piece that spells no segment has the fault
abbrev pub LineHasFault : ℕ → Last → List (List ℕ) → VlqCause → ℕ → Type 0
LineHasFault place last [] cause at = ⊥
LineHasFault place last ([] ∷ pieces) cause at = LineHasFault (place + 1) last pieces cause at
LineHasFault place last ((b ∷ bs) ∷ pieces) cause at =
    HasFault place last (b ∷ bs) cause at
    ⊎ ((s : Segment) × SpellsSegment last (b ∷ bs) s × LineHasFault (place + length (b ∷ bs) + 1) (behind last s) pieces cause at)

-- the first text that spells no line has it
abbrev pub LinesHaveFault : ℕ → Last → List (List ℕ) → VlqCause → ℕ → Type 0
LinesHaveFault place last [] cause at = ⊥
LinesHaveFault place last (text ∷ texts) cause at =
    LineHasFault place last (slice_split is_comma text) cause at
    ⊎ ((line : List Segment) × SpellsLine last (slice_split is_comma text) line × LinesHaveFault (place + length text + 1) (next_line (behind_line last line)) texts cause at)

-- The fault is the first of the text. Want of memory is no fault of a text.
abbrev pub IsFirstFault : List ℕ → VlqFault → Type 0
IsFirstFault text (At at cause) = LinesHaveFault 0 start (slice_split is_semicolon text) cause at
IsFirstFault text NoMemory = Unit {0}
