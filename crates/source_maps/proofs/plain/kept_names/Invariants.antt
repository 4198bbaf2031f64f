use Rattle.std.proofs.Common.{◌≡◌, ◌++◌, drop}
use Rattle.source_maps.specs.Maps.{kept_names}
use Rattle.source_maps.proofs.plain.kept_names.Given as goal

-- the names so far, and those of the rest, are those of all
abbrev pub invariant-loop-source : goal.invariant-loop-source
invariant-loop-source l = l.kept ++ kept_names l.root (drop l.source-index l.sources) ≡ kept_names l.root l.sources
