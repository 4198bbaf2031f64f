-- How far a folder's texts have been read for the workers.
use Rattle.std.specs.Prelude.{◌≡◌, ℕ, List, map, string_bytes}
use Rattle.cov_io.specs.Told.{Files}
use Rattle.cov_collect.specs.Batchwise.{Collects}
use Rattle.cov_commands.specs.declared.collect.Gathered.{Gathered}
use Rattle.cov_commands.specs.Collect.{texts_of}
use Rattle.cov_commands.specs.Due.{paths_of}

-- The texts among these names were handed to the collector, and their paths are kept.
pub record HasGathered (folder : List ℕ) (files : Files) (names : List (List ℕ)) (g : Gathered) : Type 0 where
  pub texts : Collects (texts_of folder files names) g.texts
  pub paths : map string_bytes g.paths.items ≡ paths_of folder names
