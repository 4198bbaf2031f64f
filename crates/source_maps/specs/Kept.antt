-- What holds of each map.
use Rattle.std.specs.Prelude.{◌≡◌, ℕ, Bool, true, ◌&&◌, length, nat_le, nat_lt, Option, None, Some}
use Rattle.std.specs.List.{list_all}
use Rattle.std.specs.List.Sorted.{IsSortedByKey}
use Rattle.vlq_mappings.specs.declared.Origin.{Origin}
use Rattle.vlq_mappings.specs.Kept.{most, origin_is_near}
use Rattle.source_maps.specs.declared.map.MapSegment.{MapSegment}
use Rattle.source_maps.specs.declared.map.MapParts.{MapParts}
use Rattle.source_maps.specs.At.{spot_of, spot_cmp}

abbrev pub name_is_below : ℕ → Option ℕ → Bool
name_is_below names None = true
name_is_below names (Some n) = nat_lt n names

-- the origin's source and name are among as many sources and names
abbrev pub origin_is_below : ℕ → ℕ → Option Origin → Bool
origin_is_below sources names None = true
origin_is_below sources names (Some o) = nat_lt o.source sources && name_is_below names o.name

abbrev pub is_below : ℕ → ℕ → MapSegment → Bool
is_below sources names s = origin_is_below sources names s.origin

-- no number of the segment passes the greatest, 2^31 - 1
abbrev pub is_near : MapSegment → Bool
is_near s = nat_le s.line most && (nat_le s.column most && origin_is_near s.origin)

-- There are as many contents as sources, no number passes the greatest, and each origin's source and name are in the lists.
pub record AreParts (m : MapParts) : Type 0 where
  pub contents : length m.contents ≡ length m.sources
  pub near : list_all is_near m.segments ≡ true
  pub below : list_all (is_below (length m.sources) (length m.names)) m.segments ≡ true

-- and the segments stand by line and column
pub record IsMap (m : MapParts) : Type 0 where
  pub parts : AreParts m
  pub ordered : IsSortedByKey spot_of spot_cmp m.segments
