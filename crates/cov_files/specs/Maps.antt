-- What the bytes of a text say of the maps of its scripts.
use Rattle.std.specs.Prelude.{ℕ, List, length, nat_lt, if◌then◌else◌, Result, Ok, Err}
use Rattle.json_shapes.specs.Shapes.{◌>>=◌, or_fault, parsed}
use Rattle.cov_text.specs.Listing.{max_text}
use Rattle.cov_model.specs.declared.snapshot.TextFault.{TextFault}
use Rattle.cov_model.specs.declared.snapshot.TextFault.TheVariants.{TooLong, Syntax}
use Rattle.source_maps.specs.Entries.{Said, entries_of}

-- what the text with these bytes says of maps, or why it is no JSON
unfoldable pub maps_reading : List ℕ → Result (List Said) TextFault
maps_reading bytes = if nat_lt max_text (length bytes) then Err TooLong else (or_fault Syntax (parsed bytes) >>= λ d. Ok (entries_of d))
