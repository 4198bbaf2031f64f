use Rattle.std.proofs.Common.{◌≡◌, drop}
use Rattle.std.specs.Prelude.{filter_map}
use Rattle.cov_text.specs.Listing.{inserted, text_cmp}
use Rattle.cov_io.specs.Told.{name_in, names_in}
use Rattle.cov_io.specs.Memory.{files_of}
use Rattle.cov_io.proofs.memory.names_of.Given as goal

-- the names so far, with those of the rest, are those of all
abbrev pub invariant-loop-file : goal.invariant-loop-file
invariant-loop-file l =
    inserted text_cmp l.names.keys (filter_map (λ f. name_in l.folder f.0) (files_of (drop l.file-index l.files)))
    ≡ names_in l.folder (files_of l.files)
