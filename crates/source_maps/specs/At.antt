-- The segments of a map in order, and the one at a generated spot.
use Rattle.std.specs.Prelude.{ℕ, Bool, ◌&&◌, List, [], ◌∷◌, nat_le, ◌==◌, if◌then◌else◌, Option, filter}
use Rattle.std.specs.List.{list_all}
use Rattle.std.specs.declared.cmp.Ordering.{Ordering}
use Rattle.std.specs.Ordering.{nat_cmp, ordering_then, is_lt}
use Rattle.cov_text.specs.Listing.{last_of}
use Rattle.source_maps.specs.declared.map.MapSegment.{MapSegment}

-- by line, and then by column
abbrev pub spot_cmp : (ℕ × ℕ) → (ℕ × ℕ) → Ordering
spot_cmp a b = ordering_then (nat_cmp a.0 b.0) (nat_cmp a.1 b.1)

abbrev pub spot_of : MapSegment → ℕ × ℕ
spot_of s = (s.line, s.column)

-- a begins at an earlier spot than b
abbrev pub is_earlier : MapSegment → MapSegment → Bool
is_earlier a b = is_lt (spot_cmp (spot_of a) (spot_of b))

-- s, ahead of the first that begins no earlier
abbrev pub placed : MapSegment → List MapSegment → List MapSegment
placed s [] = s ∷ []
placed s (other ∷ others) = if is_earlier other s then other ∷ placed s others else s ∷ other ∷ others

-- by line and column, those of one spot in the order in which they stand
abbrev pub by_spot : List MapSegment → List MapSegment
by_spot [] = []
by_spot (s ∷ segments) = placed s (by_spot segments)

-- it is on the line, and begins at the column or before
abbrev pub begins_by : ℕ → ℕ → MapSegment → Bool
begins_by line column s = (s.line == line) && nat_le s.column column

-- none of these has a greater column
abbrev pub is_greatest : List MapSegment → MapSegment → Bool
is_greatest others s = list_all (λ other. nat_le other.column s.column) others

-- those on the line that begin at the column or before
abbrev pub begun : List MapSegment → ℕ → ℕ → List MapSegment
begun segments line column = filter (begins_by line column) segments

-- of them that of the greatest column, of equal ones the last
unfoldable pub segment_at : List MapSegment → ℕ → ℕ → Option MapSegment
segment_at segments line column = last_of (filter (is_greatest (begun segments line column)) (begun segments line column))
