-- The map that a JSON value is, or its first fault. Source Map revision 3, with index maps.
use Rattle.std.specs.Prelude.{ℕ, suc, ◌+◌, ◌-◌, Bool, true, false, not, ◌&&◌, ◌||◌, List, [], ◌∷◌, ◌++◌, length, map, take, replicate, nat_lt, nat_le, nat_eq, ◌==◌, if◌then◌else◌, Option, None, Some, option_map, option_and_then, unwrap_or, is_some, Result, Ok, Err, codes, position, ⊤}
use Rattle.std.specs.List.{list_all, ends_with}
use Rattle.serde_json.specs.Data.{Data, Items, no_items, item}
use Rattle.serde_json.specs.Find.{get, as_str, as_array, as_object}
use Rattle.cov_text.specs.Listing.{max_text}
use Rattle.json_shapes.specs.Shapes.{◌>>=◌, or_fault, whole}
use Rattle.json_shapes.specs.Members.{listed, or_null, if_there, if_given_or}
use Rattle.vlq_mappings.specs.declared.Origin.{Origin}
use Rattle.vlq_mappings.specs.declared.Segment.{Segment}
use Rattle.vlq_mappings.specs.declared.VlqFault.{VlqFault}
use Rattle.vlq_mappings.specs.declared.VlqFault.TheVariants as vlq
use Rattle.vlq_mappings.specs.Mappings.{mappings}
use Rattle.vlq_mappings.specs.Kept.{most, name_is_near}
use Rattle.source_maps.specs.declared.map.MapSegment.{MapSegment}
use Rattle.source_maps.specs.declared.map.MapParts.{MapParts}
use Rattle.source_maps.specs.declared.start.Start.{Start}
use Rattle.source_maps.specs.declared.fault.MapField.{MapField}
use Rattle.source_maps.specs.declared.fault.MapField.TheVariants as field
use Rattle.source_maps.specs.declared.fault.MapFault.{MapFault}
use Rattle.source_maps.specs.declared.fault.MapFault.TheVariants.{Shape, Section, Mappings, Index, Order, Far, NoMemory}
use Rattle.source_maps.specs.At.{by_spot}
use Rattle.source_maps.specs.Kept.{is_below}

-- ---- members

-- its `version` is the number 3
abbrev pub has_version_3 : Data → Bool
has_version_3 d = unwrap_or (option_map (λ n. n == 3) (option_and_then whole (get (codes "version") d))) false

-- a text of mappings is at most 128 MiB
abbrev pub short_text : Data → Option (List ℕ)
short_text d = option_and_then (λ text. if nat_lt max_text (length text) then None else Some text) (as_str d)

-- ---- one map without sections; in an index map it is that of section k

abbrev pub wrong : Option ℕ → MapField → MapFault
wrong None name = Shape name
wrong (Some k) name = Section k name

abbrev pub mappings_fault : Option ℕ → VlqFault → MapFault
mappings_fault section (vlq.At place cause) = Mappings (unwrap_or section 0) place cause
mappings_fault section vlq.NoMemory = NoMemory

-- the lines that a text of mappings spells
abbrev pub spelt : Option ℕ → Result (List (List Segment)) VlqFault → Result (List (List Segment)) MapFault
spelt section (Ok lines) = Ok lines
spelt section (Err fault) = Err (mappings_fault section fault)

abbrev pub on_line : ℕ → Segment → MapSegment
on_line line s = record { line = line; column = s.column; origin = s.origin }

-- the segments of the lines, the first of which has this number
abbrev pub located : ℕ → List (List Segment) → List MapSegment
located line [] = []
located line (segments ∷ lines) = map (on_line line) segments ++ located (suc line) lines

-- the segments, unless the source or name of one is past as many sources or names; the first of those is told
abbrev pub all_below : ℕ → ℕ → List MapSegment → Option ℕ → Result (List MapSegment) MapFault
all_below sources names segments None = Ok segments
all_below sources names segments (Some k) = Err (Index k)

abbrev pub first_past : ℕ → ℕ → List MapSegment → Option ℕ
first_past sources names segments = position (λ s. not (is_below sources names s)) segments

-- `/` where a root isn't empty and has none at its end
abbrev pub slash_behind : List ℕ → List ℕ
slash_behind root = if (length root == 0) || ends_with nat_eq root (47 ∷ []) then [] else 47 ∷ []

-- the root, with `/` at its end, then the source
abbrev pub kept_name : List ℕ → List ℕ → List ℕ
kept_name root source = root ++ (slash_behind root ++ source)

abbrev pub kept_names : List ℕ → List (Option (List ℕ)) → List (Option (List ℕ))
kept_names root sources = map (option_map (kept_name root)) sources

-- as many contents as sources: those past the sources are dropped, and missing ones aren't given
abbrev pub fitted : ℕ → List (Option (List ℕ)) → List (Option (List ℕ))
fitted n contents = take n contents ++ replicate (n - length contents) None

-- the members that list texts
abbrev pub sources_of : Option ℕ → Data → Result (List (Option (List ℕ))) MapFault
sources_of section d = or_fault (wrong section field.Sources) (option_and_then (listed (or_null as_str)) (get (codes "sources") d))

abbrev pub root_of : Option ℕ → Data → Result (List ℕ) MapFault
root_of section d = or_fault (wrong section field.SourceRoot) (if_given_or as_str [] (get (codes "sourceRoot") d))

abbrev pub contents_of : Option ℕ → Data → Result (List (Option (List ℕ))) MapFault
contents_of section d = or_fault (wrong section field.SourcesContent) (if_given_or (listed (or_null as_str)) [] (get (codes "sourcesContent") d))

abbrev pub names_of : Option ℕ → Data → Result (List (List ℕ)) MapFault
names_of section d = or_fault (wrong section field.Names) (if_there (listed as_str) [] (get (codes "names") d))

abbrev pub mappings_of : Option ℕ → Data → Result (List ℕ) MapFault
mappings_of section d = or_fault (wrong section field.Mappings) (option_and_then short_text (get (codes "mappings") d))

-- the segments of the member `mappings`, in the order of the text, for as many sources and names
abbrev pub segments_of : Option ℕ → ℕ → ℕ → Data → Result (List MapSegment) MapFault
segments_of section sources names d = do
  text ← mappings_of section d
  lines ← spelt section (mappings text)
  all_below sources names (located 0 lines) (first_past sources names (located 0 lines))

-- its segments stand as in the text
abbrev pub plain_map : Option ℕ → Data → Result MapParts MapFault
plain_map section d = do
  sources ← sources_of section d
  root ← root_of section d
  contents ← contents_of section d
  names ← names_of section d
  segments ← segments_of section (length sources) (length names) d
  Ok (record {
    sources = kept_names root sources;
    contents = fitted (length sources) contents;
    names = names;
    segments = segments;
  })

-- ---- index maps

abbrev pub small : Data → Option ℕ
small d = option_and_then (λ n. if nat_lt most n then None else Some n) (whole d)

-- where a section begins
abbrev pub start_of : Data → Option Start
start_of d =
    option_and_then (λ line. option_map (λ column. record { line = line; column = column }) (option_and_then small (get (codes "column") d)))
    (option_and_then small (get (codes "line") d))

-- a begins before b, by line and then by column
abbrev pub is_before : Start → Start → Bool
is_before a b = nat_lt a.line b.line || ((a.line == b.line) && nat_lt a.column b.column)

-- where the section ahead begins, if there is one, is no later
abbrev pub in_order : ℕ → Option Start → Start → Result Start MapFault
in_order k None start = Ok start
in_order k (Some ahead) start = if is_before start ahead then Err (Order k) else Ok start

-- an object with version 3 and no sections
abbrev pub section_map : Data → Option Data
section_map d = if has_version_3 d && not (is_some (get (codes "sections") d)) then Some d else None

-- where section k begins, and the value of its map
abbrev pub section_head : ℕ → Option Start → Data → Result (Start × Data) MapFault
section_head k ahead d = do
  _object ← or_fault (Section k field.Sections) (as_object d)
  offset ← or_fault (Section k field.Offset) (option_and_then start_of (get (codes "offset") d))
  start ← in_order k ahead offset
  inner ← or_fault (Section k field.Map) (option_and_then section_map (get (codes "map") d))
  Ok (start, inner)

-- A section's lines are moved by its line, the columns of its first line by its column, and sources and names by the
-- number of those ahead.
abbrev pub moved_origin : ℕ → ℕ → Origin → Origin
moved_origin sources names o = record o { source = sources + o.source; name = option_map (λ n. names + n) o.name }

abbrev pub moved : Start → ℕ → ℕ → MapSegment → MapSegment
moved start sources names s =
    record {
      line = start.line + s.line;
      column = (if s.line == 0 then start.column + s.column else s.column);
      origin = option_map (moved_origin sources names) s.origin;
    }

abbrev pub indexes_stay_near : Option Origin → Bool
indexes_stay_near None = true
indexes_stay_near (Some o) = nat_le o.source most && name_is_near o.name

-- no number that is moved passes the greatest
abbrev pub stays_near : MapSegment → Bool
stays_near s = nat_le s.line most && (nat_le s.column most && indexes_stay_near s.origin)

-- the segments, unless a moved number of one of section k passes the greatest
abbrev pub all_near : ℕ → List MapSegment → Result (List MapSegment) MapFault
all_near k segments = if list_all stays_near segments then Ok segments else Err (Far k)

-- the map of section k, with its segments moved
abbrev pub section_of : ℕ → Option Start → ℕ → ℕ → Data → Result (Start × MapParts) MapFault
section_of k ahead sources names d = do
  head ← section_head k ahead d
  m ← plain_map (Some k) head.1
  segments ← all_near k (map (moved head.0 sources names) m.segments)
  Ok (head.0, record m { segments = segments })

-- a map, and the next behind it
abbrev pub joined : MapParts → MapParts → MapParts
joined m next = record {
  sources = m.sources ++ next.sources;
  contents = m.contents ++ next.contents;
  names = m.names ++ next.names;
  segments = m.segments ++ next.segments;
}

abbrev pub no_map : MapParts
no_map = record { sources = []; contents = []; names = []; segments = [] }

-- the sections from the one at k on, behind one that begins at `ahead`, and as many sources and names
abbrev pub sections_from : ℕ → Option Start → ℕ → ℕ → Items → Result MapParts MapFault
sections_from k ahead sources names no_items = Ok no_map
sections_from k ahead sources names (item d ds) = do
  section ← section_of k ahead sources names d
  rest ← sections_from (suc k) (Some section.0) (sources + length section.1.sources) (names + length section.1.names) ds
  Ok (joined section.1 rest)

-- ---- any map

abbrev pub index_map : Data → Result MapParts MapFault
index_map sections = or_fault (Shape field.Sections) (as_array sections) >>= sections_from 0 None 0 0

abbrev pub by_sections : Data → Option Data → Result MapParts MapFault
by_sections d None = plain_map None d
by_sections d (Some sections) = index_map sections

abbrev pub version_of : Data → Result ⊤ MapFault
version_of d = if has_version_3 d then Ok tt else Err (Shape field.Version)

-- the map that a JSON value is, or its first fault
unfoldable pub map_of : Data → Result MapParts MapFault
map_of d = do
  _object ← or_fault (Shape field.Top) (as_object d)
  _version ← version_of d
  m ← by_sections d (get (codes "sections") d)
  Ok (record m { segments = by_spot m.segments })
