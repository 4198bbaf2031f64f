-- What a search among a map's segments finds.
use Rattle.std.specs.Prelude.{ℕ, Bool, ◌&&◌, ◌||◌, nat_lt, nat_le, ◌==◌}
use Rattle.source_maps.specs.declared.map.MapSegment.{MapSegment}

-- it stands on an earlier line, or on this one and at the column or before
abbrev pub stands_by : ℕ → ℕ → MapSegment → Bool
stands_by line column s = nat_lt s.line line || ((s.line == line) && nat_le s.column column)
