use Rattle.std.proofs.Common.{◌≡◌, drop, length}
use Rattle.std.specs.Prelude.{None}
use Rattle.serde_json.specs.View.{items_view}
use Rattle.source_maps.specs.Kept.{AreParts}
use Rattle.source_maps.specs.Maps.{sections_from}
use Rattle.source_maps.specs.Answers.{behind_map}
use Rattle.source_maps.proofs.sections.all_sections.Given as goal

-- the map so far, and that of the sections left, is that of all
abbrev pub invariant-loop-k : goal.invariant-loop-k
invariant-loop-k l =
    record {
      map : behind_map l.map (sections_from l.k l.ahead (length l.map.sources) (length l.map.names) (items_view (drop l.k l.values)))
          ≡ sections_from 0 None 0 0 (items_view l.values);
      parts : AreParts l.map;
    }
