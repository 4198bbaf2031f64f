-- What the parts of a snapshot are read of.
use Rattle.std.specs.Prelude.{◌≡◌, ℕ, List, Option, None, option_map, option_and_then, Ok, IfSome, codes}
use Rattle.json_shapes.specs.Shapes.{parsed, whole, offset_of}
use Rattle.serde_json.specs.Data.{Data, Members, object}
use Rattle.serde_json.specs.Find.{as_str, as_bool, get, get_member}
use Rattle.serde_json.specs.View.{view}
use Rattle.cov_model.specs.declared.report.Range.{Range}
use Rattle.cov_model.specs.declared.report.FunctionReport.{FunctionReport}
use Rattle.cov_model.specs.declared.snapshot.Entry.{Entry}
use Rattle.cov_model.specs.Nesting.{range_fault, AreReportsNested, AreNested}
use Rattle.cov_model.specs.Reading.{range_of, report_of, entry_of}
use Rattle.json_walk.specs.Shape.{Is, GivesList, Has}
use Rattle.snapshot_reader.specs.declared.range.FoundRange.{FoundRange}
use Rattle.snapshot_reader.specs.declared.function.FoundFunction.{FoundFunction}
use Rattle.snapshot_reader.specs.declared.script.FoundScript.{FoundScript}
use Rattle.snapshot_reader.specs.declared.text.FoundTop.{FoundTop}
use Rattle.snapshot_reader.specs.declared.text.FoundText.{FoundText}

-- ---- an item, wherever it stands

abbrev pub GivesRange : Range → Data → Type 0
GivesRange r d = (s f k : ℕ) → range_of s f k d ≡ Ok r

abbrev pub GivesReport : FunctionReport → Data → Type 0
GivesReport r d = ((s k : ℕ) → report_of s k d ≡ Ok r) × (range_fault r.ranges ≡ None)

abbrev pub GivesEntry : Entry → Data → Type 0
GivesEntry e d = ((k : ℕ) → entry_of k d ≡ Ok e) × AreReportsNested e.functions

-- ---- what was found of an object is what its members have

abbrev pub HoldsRange : FoundRange → Members → Type 0
HoldsRange found ms =
    Has (Is offset_of) (codes "startOffset") ms found.start
    × Has (Is offset_of) (codes "endOffset") ms found.end
    × Has (Is whole) (codes "count") ms found.count

abbrev pub HoldsFunction : FoundFunction → Members → Type 0
HoldsFunction found ms =
    Has (Is as_str) (codes "functionName") ms found.name
    × Has (Is as_bool) (codes "isBlockCoverage") ms found.block
    × Has (GivesList GivesRange) (codes "ranges") ms found.ranges

abbrev pub HoldsScript : FoundScript → Members → Type 0
HoldsScript found ms =
    Has (Is as_str) (codes "url") ms found.url
    × Has (GivesList GivesReport) (codes "functions") ms found.functions

-- the member with maps, where it is there
abbrev pub maps_in : Data → Option Data
maps_in d = get (codes "source-map-cache") d

abbrev pub HoldsTop : FoundTop → Members → Type 0
HoldsTop found ms = Has (GivesList GivesEntry) (codes "result") ms found.scripts

abbrev pub HoldsText : FoundText → Members → Type 0
HoldsText found ms =
    HoldsTop found.top ms
    × (option_map view found.maps ≡ get_member (codes "source-map-cache") ms)

-- what a whole text says, as its object

abbrev pub GivesTop : FoundTop → Data → Type 0
GivesTop found d = (ms : Members) × (object ms ≡ d) × HoldsTop found ms

abbrev pub GivesText : FoundText → Data → Type 0
GivesText found d = (ms : Members) × (object ms ≡ d) × HoldsText found ms

-- ---- a whole text

-- the scripts that were found nest
abbrev pub HasScripts : Option (List Entry) → Type 0
HasScripts found = IfSome found AreNested

-- what the text with these bytes says of maps, as its object's member
abbrev pub text_maps : List ℕ → Option Data
text_maps bytes = option_and_then maps_in (parsed bytes)
