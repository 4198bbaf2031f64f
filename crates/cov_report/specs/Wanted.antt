-- What a report asks for: each script, or each source of its map, with the path and the text that it names.
use Rattle.std.specs.Prelude.{ℕ, ◌^◌, Bool, List, [], ◌∷◌, length, nat_lt, if◌then◌else◌, Option, None, Some, is_some, option_map, option_and_then, unwrap_or, Result, Ok, Err, find, flat_map, filter_map, slice_get}
use Rattle.std.specs.List.{enumerate_from}
use Rattle.std.specs.Str.{is_utf8}
use Rattle.cov_text.specs.Listing.{same_text, max_text}
use Rattle.cov_model.specs.declared.snapshot.Entry.{Entry}
use Rattle.json_shapes.specs.Shapes.{or_fault, ◌>>=◌}
use Rattle.cov_io.specs.Told.{Files, bytes_at}
use Rattle.utf16_lines.specs.Table.{Table}
use Rattle.utf16_lines.specs.Lines.{table_of_lengths}
use Rattle.source_maps.specs.declared.map.MapParts.{MapParts}
use Rattle.source_maps.specs.declared.fault.MapFault.{MapFault}
use Rattle.source_maps.specs.Maps.{map_of}
use Rattle.source_maps.specs.Entries.{Said, GivenMap}
use Rattle.source_remap.specs.Paths.{path_of, source_path}
use Rattle.istanbul_rules.specs.declared.part.Part.{Part}
use Rattle.istanbul_rules.specs.Parts.{direct_part, mapped_part}
use Rattle.istanbul_rules.specs.Remapped.{MappedCode}
use Rattle.cov_report.specs.declared.answer.SkipCause.{SkipCause}
use Rattle.cov_report.specs.declared.answer.SkipCause.TheVariants.{NotFile, Absent, TooLong, NotUtf8, BadMap}
use Rattle.cov_report.specs.declared.maps.GoodMap.{GoodMap}

-- A path, the text given for it where there is one, and the part that it gets, by the table of its text.
pub record Wanted : Type 0 where
  pub path : List ℕ
  pub content : Option (List ℕ)
  pub part : Table → Part

-- a script or a source, by its name, and what it wants, or why it is left out at once
pub record Asked : Type 0 where
  pub name : List ℕ
  pub wanted : Result Wanted SkipCause

-- ---- a script without a map

abbrev pub direct_wanted : Entry → List ℕ → Wanted
direct_wanted script path = record { path = path; content = None; part = λ table. direct_part table script.functions }

abbrev pub direct : Entry → Asked
direct script = record { name = script.url; wanted = or_fault NotFile (option_map (direct_wanted script) (path_of script.url)) }

-- ---- a script with a map

abbrev pub good : Option Table → Result MapParts MapFault → Option GoodMap
good None m = None
good (Some generated) (Ok m) = Some (record { map = m; generated = generated })
good (Some generated) (Err fault) = None

-- a good map: itself, and the table of the generated code
abbrev pub good_map : GivenMap → Option GoodMap
good_map given = good (table_of_lengths given.lengths) (map_of given.value)

-- the content of a source, where the map has it
abbrev pub content_of : MapParts → ℕ → Option (List ℕ)
content_of m k = option_and_then (λ content. content) (slice_get m.contents k)

-- the path of a source, or else its own name where its content is there
abbrev pub path_or_name : List ℕ → List ℕ → Bool → Option (List ℕ)
path_or_name url name has_content = if has_content then Some (unwrap_or (source_path url (Some name)) name) else source_path url (Some name)

abbrev pub mapped_wanted : Entry → GoodMap → ℕ → List ℕ → Wanted
mapped_wanted script good k path =
    record { path = path; content = content_of good.map k; part = λ table. mapped_part table good.generated good.map.segments k script.functions }

-- the source of this name, at place k
abbrev pub mapped : Entry → GoodMap → ℕ → List ℕ → Asked
mapped script good k name =
    record {
      name = name;
      wanted = or_fault NotFile (option_map (mapped_wanted script good k) (path_or_name script.url name (is_some (content_of good.map k))));
    }

-- a source with its place, which is asked for where it has a name and the place is a 32-bit number
abbrev pub mapped_if_named : Entry → GoodMap → ℕ × Option (List ℕ) → Option Asked
mapped_if_named script good source = if nat_lt source.0 (2 ^ 32) then option_map (mapped script good source.0) source.1 else None

-- the sources that are asked for, in order
abbrev pub sources_asked : Entry → Option GoodMap → List Asked
sources_asked script None = record { name = script.url; wanted = Err BadMap } ∷ []
sources_asked script (Some good) = filter_map (mapped_if_named script good) (enumerate_from 0 good.map.sources)

-- ---- any script

abbrev pub asked_by : Entry → Option Said → List Asked
asked_by script None = direct script ∷ []
asked_by script (Some entry) = sources_asked script (option_and_then good_map entry.body)

-- the first entry of a url
abbrev pub entry_for : List Said → List ℕ → Option Said
entry_for entries url = find (λ entry. same_text entry.url url) entries

-- what the scripts ask for, in order
unfoldable pub asked : List Entry → List Said → List Asked
asked scripts entries = flat_map (λ script. asked_by script (entry_for entries script.url)) scripts

-- ---- texts

abbrev pub short_text : List ℕ → Result (List ℕ) SkipCause
short_text bytes = if nat_lt max_text (length bytes) then Err TooLong else Ok bytes

abbrev pub utf8_text : List ℕ → Result (List ℕ) SkipCause
utf8_text bytes = if is_utf8 bytes then Ok bytes else Err NotUtf8

-- the text that bytes are
abbrev pub text_in : List ℕ → Result (List ℕ) SkipCause
text_in bytes = short_text bytes >>= utf8_text

-- the text that is wanted for a path: the content, or else the file there
abbrev pub own_text : Files → List ℕ → Option (List ℕ) → Result (List ℕ) SkipCause
own_text files path None = or_fault Absent (bytes_at path files) >>= text_in
own_text files path (Some content) = short_text content

-- ---- one step of the code

-- what the parts of a script's sources are made of
abbrev pub mapped_code : Entry → GoodMap → MappedCode
mapped_code script good = record { generated = good.generated; segments = good.map.segments; functions = script.functions }

-- what a source asks for, in a list
abbrev pub asked_at : Entry → GoodMap → ℕ × Option (List ℕ) → List Asked
asked_at script good source = filter_map (mapped_if_named script good) (source ∷ [])
