-- Where generated code comes from: the anchors of an original line, and the original span of a generated range.
use Rattle.std.specs.Prelude.{ℕ, ◌-◌, min, Bool, ◌&&◌, ◌||◌, List, map, nat_lt, nat_le, ◌==◌, if◌then◌else◌, Option, None, Some, option_map, option_and_then, filter, filter_map}
use Rattle.std.specs.List.{list_all}
use Rattle.cov_text.specs.Listing.{offsets}
use Rattle.utf16_lines.specs.declared.Spot.{Spot}
use Rattle.utf16_lines.specs.Table.{Table}
use Rattle.utf16_lines.specs.Lines.{place, offset}
use Rattle.vlq_mappings.specs.declared.Origin.{Origin}
use Rattle.source_maps.specs.declared.map.MapSegment.{MapSegment}
use Rattle.source_maps.specs.At.{segment_at}
use Rattle.source_remap.specs.declared.OriginalSpan.{OriginalSpan}
use Rattle.source_remap.specs.declared.lines.Landing.{Landing}

-- ---- lines

abbrev pub generated_spot : MapSegment → Spot
generated_spot s = record { line = s.line; column = s.column }

abbrev pub landing_at : Origin → ℕ → Landing
landing_at o at = record { line = o.line; column = o.column; offset = at }

-- where a segment lands in this source, if it comes from there and its generated spot has an offset
abbrev pub landing_of : Table → ℕ → MapSegment → Option Landing
landing_of generated source s =
    option_and_then (λ o. if o.source == source then option_map (landing_at o) (offset generated (generated_spot s)) else None) s.origin

abbrev pub landings : List MapSegment → ℕ → Table → List Landing
landings segments source generated = filter_map (landing_of generated source) segments

-- those on this original line
abbrev pub on_line : ℕ → List Landing → List Landing
on_line line all = filter (λ l. l.line == line) all

-- none of these has a smaller column
abbrev pub is_leftmost : List Landing → Landing → Bool
is_leftmost others l = list_all (λ other. nat_le l.column other.column) others

-- the generated offsets of the leftmost of these, in their order
abbrev pub leftmost_offsets : List Landing → List ℕ
leftmost_offsets all = map (λ l. l.offset) (filter (is_leftmost all) all)

-- the generated offsets of a line's anchors, in the order of the map's segments
unfoldable pub anchors : List MapSegment → ℕ → Table → ℕ → List ℕ
anchors segments source generated line = leftmost_offsets (on_line line (landings segments source generated))

-- the anchors of each line below `lines`
abbrev pub original_lines : List MapSegment → ℕ → Table → ℕ → List (List ℕ)
original_lines segments source generated lines = map (anchors segments source generated) (offsets 0 lines)

-- ---- spans

-- the spot of an offset, which counts as the last where it is past the units
abbrev pub place_within : Table → ℕ → Option Spot
place_within table o = place table (min o table.units)

-- where the code at a generated offset comes from
abbrev pub origin_at : List MapSegment → Table → ℕ → Option Origin
origin_at segments generated o =
    option_and_then (λ spot. option_and_then (λ s. s.origin) (segment_at segments spot.line spot.column)) (place_within generated o)

-- a doesn't stand after b, by line and then by column
abbrev pub is_not_after : Origin → Origin → Bool
is_not_after a b = nat_lt a.line b.line || ((a.line == b.line) && nat_le a.column b.column)

abbrev pub spot_in : Origin → Spot
spot_in o = record { line = o.line; column = o.column }

-- from one origin to another of the same source
abbrev pub span_between : Origin → Origin → Option OriginalSpan
span_between a b = if (a.source == b.source) && is_not_after a b then Some (record { source = a.source; first = spot_in a; last = spot_in b }) else None

-- the original span of the generated range: from the origin of its first unit to that of its last
unfoldable pub original_span : List MapSegment → Table → ℕ → ℕ → Option OriginalSpan
original_span segments generated start end =
    if nat_lt start end
    then option_and_then (λ a. option_and_then (span_between a) (origin_at segments generated (end - 1))) (origin_at segments generated start)
    else None
