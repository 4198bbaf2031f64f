-- What holds of a section's map, moved behind those ahead.
use Rattle.std.specs.Prelude.{◌≡◌, ℕ, ◌+◌, true, length}
use Rattle.std.specs.List.{list_all}
use Rattle.source_maps.specs.declared.map.MapParts.{MapParts}
use Rattle.source_maps.specs.Kept.{is_near, is_below}

-- As many contents as sources, no number past the greatest, and each origin among as many sources and names and its own.
pub record IsSection (sources names : ℕ) (m : MapParts) : Type 0 where
  pub contents : length m.contents ≡ length m.sources
  pub near : list_all is_near m.segments ≡ true
  pub below : list_all (is_below (sources + length m.sources) (names + length m.names)) m.segments ≡ true
