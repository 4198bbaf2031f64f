-- The snapshot that a text is, or its first fault.
use Rattle.std.specs.Prelude.{ℕ, suc, List, [], ◌∷◌, length, nat_lt, if◌then◌else◌, Option, None, Some, Result, Ok, Err, codes}
use Rattle.serde_json.specs.Data.{Data, Items, no_items, item}
use Rattle.serde_json.specs.Find.{get, as_bool, as_str, as_array, as_object}
use Rattle.cov_model.specs.declared.report.Range.{Range}
use Rattle.cov_model.specs.declared.report.FunctionReport.{FunctionReport}
use Rattle.cov_model.specs.declared.report.RangeFault.{RangeFault}
use Rattle.cov_model.specs.declared.snapshot.Snapshot.{Snapshot}
use Rattle.cov_model.specs.declared.snapshot.Entry.{Entry}
use Rattle.cov_model.specs.declared.snapshot.Place.{Place}
use Rattle.cov_model.specs.declared.snapshot.Field as field
use Rattle.cov_model.specs.declared.snapshot.Field.TheVariants.{Top, Result as ResultList, Script, Url, Functions, Function, FunctionName, Ranges as RangeList, RangeItem, IsBlockCoverage, StartOffset, EndOffset, Count}
use Rattle.cov_model.specs.declared.snapshot.ShapeFault.{ShapeFault}
use Rattle.cov_model.specs.declared.snapshot.ShapeFault.TheVariants.{Missing, Wrong, Ranges}
use Rattle.cov_model.specs.declared.snapshot.TextFault.{TextFault}
use Rattle.cov_model.specs.declared.snapshot.TextFault.TheVariants.{TooLong, Syntax, Shape}
use Rattle.json_shapes.specs.Shapes.{◌>>=◌, or_fault, parsed, whole, offset_of}
use Rattle.cov_text.specs.Listing.{max_text}
use Rattle.cov_model.specs.Nesting.{range_fault}

-- ---- places, each number from 0

abbrev pub nowhere : Place
nowhere = record { script = None; function = None; range = None }

abbrev pub at_script : ℕ → Place
at_script s = record { script = Some s; function = None; range = None }

abbrev pub at_function : ℕ → ℕ → Place
at_function s f = record { script = Some s; function = Some f; range = None }

abbrev pub at_range : ℕ → ℕ → ℕ → Place
at_range s f r = record { script = Some s; function = Some f; range = Some r }

-- ---- members

-- the value as what kind gives of it, else a wrong field
abbrev pub taken_as : {A : Type 0} → (Data → Option A) → Place → field.Field → Data → Result A ShapeFault
taken_as kind place name d = or_fault (Wrong place name) (kind d)

-- the member of this key, of this kind: it is missing, or wrong, or there
abbrev pub member_as : {A : Type 0} → (Data → Option A) → Place → field.Field → List ℕ → Data → Result A ShapeFault
member_as kind place name key d = or_fault (Missing place name) (get key d) >>= taken_as kind place name

-- each item by what reads it, with its place, in order
abbrev pub each_item : {A : Type 0} → (ℕ → Data → Result A ShapeFault) → ℕ → Items → Result (List A) ShapeFault
each_item reads k no_items = Ok []
each_item reads k (item d ds) = reads k d >>= λ x. each_item reads (suc k) ds >>= λ xs. Ok (x ∷ xs)

-- ---- from the inside out

abbrev pub range_of : ℕ → ℕ → ℕ → Data → Result Range ShapeFault
range_of s f k d = do
  _object ← taken_as as_object (at_range s f k) RangeItem d
  start ← member_as offset_of (at_range s f k) StartOffset (codes "startOffset") d
  end ← member_as offset_of (at_range s f k) EndOffset (codes "endOffset") d
  count ← member_as whole (at_range s f k) Count (codes "count") d
  Ok (record { start = start; end = end; count = count })

abbrev pub nested_or_fault : Place → Option RangeFault → FunctionReport → Result FunctionReport ShapeFault
nested_or_fault place None report = Ok report
nested_or_fault place (Some fault) report = Err (Ranges place fault)

abbrev pub report_of : ℕ → ℕ → Data → Result FunctionReport ShapeFault
report_of s k d = do
  _object ← taken_as as_object (at_function s k) Function d
  name ← member_as as_str (at_function s k) FunctionName (codes "functionName") d
  listed ← member_as as_array (at_function s k) RangeList (codes "ranges") d
  block ← member_as as_bool (at_function s k) IsBlockCoverage (codes "isBlockCoverage") d
  ranges ← each_item (range_of s k) 0 listed
  nested_or_fault (at_function s k) (range_fault ranges) (record { name = name; block = block; ranges = ranges })

abbrev pub entry_of : ℕ → Data → Result Entry ShapeFault
entry_of k d = do
  _object ← taken_as as_object (at_script k) Script d
  url ← member_as as_str (at_script k) Url (codes "url") d
  listed ← member_as as_array (at_script k) Functions (codes "functions") d
  functions ← each_item (report_of k) 0 listed
  Ok (record { url = url; functions = functions })

-- the snapshot that a JSON value is, or its first fault
unfoldable pub snapshot_of : Data → Result Snapshot ShapeFault
snapshot_of d = do
  _object ← taken_as as_object nowhere Top d
  listed ← member_as as_array nowhere ResultList (codes "result") d
  each_item entry_of 0 listed

abbrev pub shaped : Result Snapshot ShapeFault → Result Snapshot TextFault
shaped (Ok snapshot) = Ok snapshot
shaped (Err fault) = Err (Shape fault)

-- the snapshot that a text is, or its first fault
unfoldable pub reading : List ℕ → Result Snapshot TextFault
reading bytes = if nat_lt max_text (length bytes) then Err TooLong else (or_fault Syntax (parsed bytes) >>= λ d. shaped (snapshot_of d))
