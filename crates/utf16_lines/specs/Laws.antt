-- What holds of every table.
use Rattle.std.specs.Prelude.{◌≡◌, ℕ, ◌≤◌, Some, option_and_then, slice_get}
use Rattle.utf16_lines.specs.declared.Span.{Span}
use Rattle.utf16_lines.specs.declared.Spot.{Spot}
use Rattle.utf16_lines.specs.Table.{Table, IsTable}
use Rattle.utf16_lines.specs.Lines.{place, offset}

-- An offset within a line, its end among them, comes back from its spot.
abbrev pub OffsetComesBack : Type 0
OffsetComesBack =
    (table : Table) → IsTable table.spans table.units → (line : ℕ) (s : Span) → slice_get table.spans line ≡ Some s
    → (o : ℕ) → s.start ≤ o → o ≤ s.end → option_and_then (λ spot. offset table spot) (place table o) ≡ Some o

-- A spot of the table comes back from its offset.
abbrev pub SpotComesBack : Type 0
SpotComesBack =
    (table : Table) → IsTable table.spans table.units → (spot : Spot) (o : ℕ) → offset table spot ≡ Some o → place table o ≡ Some spot
