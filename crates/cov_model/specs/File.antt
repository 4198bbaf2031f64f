-- The one file of a list of snapshots: the JSON text of its scripts, with each function's sums as a normal list. A flat
-- file has the flat lists in their place.
use Rattle.std.specs.Prelude.{ℕ, suc, List, [], ◌∷◌, map, filter, codes, decimal}
use Rattle.serde_json.specs.Data.{unsigned, Data, boolean, number, string, array, object, Items, no_items, item, no_members, member}
use Rattle.serde_json.specs.Written.{compact_text}
use Rattle.cov_model.specs.declared.report.Range.{Range}
use Rattle.cov_model.specs.declared.report.FunctionReport.{FunctionReport}
use Rattle.cov_model.specs.declared.snapshot.Snapshot.{Snapshot}
use Rattle.cov_model.specs.declared.snapshot.Entry.{Entry}
use Rattle.cov_model.specs.declared.sums.Key.{Key}
use Rattle.json_shapes.specs.Shapes.{array_of}
use Rattle.cov_text.specs.Listing.{same_text}
use Rattle.cov_model.specs.Sums.{root, total, flag, urls_in_order, keys_in_order}
use Rattle.cov_model.specs.declared.report.ListForm.{ListForm}
use Rattle.cov_model.specs.declared.report.ListForm.TheVariants.{Nested, Flat}
use Rattle.cov_model.specs.Forms.{list_in}

-- ---- the scripts

-- a function with its sums
abbrev pub report_in : ListForm → List Snapshot → Key → FunctionReport
report_in form snapshots key =
    record { name = key.name; block = flag snapshots key; ranges = list_in form key.start key.end (root snapshots key) (total snapshots key) }

-- a script with its functions in file order
abbrev pub entry_in : ListForm → List Snapshot → List ℕ → Entry
entry_in form snapshots url =
    record { url = url; functions = map (report_in form snapshots) (filter (λ key. same_text key.url url) (keys_in_order snapshots)) }

unfoldable pub scripts_in : ListForm → List Snapshot → Snapshot
scripts_in form snapshots = map (entry_in form snapshots) (urls_in_order snapshots)

-- those of a normal file
abbrev pub merged_report : List Snapshot → Key → FunctionReport
merged_report = report_in Nested

abbrev pub merged_entry : List Snapshot → List ℕ → Entry
merged_entry = entry_in Nested

abbrev pub scripts : List Snapshot → Snapshot
scripts = scripts_in Nested

-- those of a flat file
abbrev pub flat_scripts : List Snapshot → Snapshot
flat_scripts = scripts_in Flat

-- ---- their JSON: members in byte order of their names

abbrev pub range_data : Range → Data
range_data r = object (member (codes "count") (number (unsigned r.count)) (member (codes "endOffset") (number (unsigned r.end)) (member (codes "startOffset") (number (unsigned r.start)) no_members)))

abbrev pub report_data : FunctionReport → Data
report_data f =
    object (member (codes "functionName") (string f.name) (member (codes "isBlockCoverage") (boolean f.block) (member (codes "ranges") (array (array_of range_data f.ranges)) no_members)))

-- the script at place k
abbrev pub entry_data : ℕ → Entry → Data
entry_data k entry =
    object (member (codes "functions") (array (array_of report_data entry.functions)) (member (codes "scriptId") (string (decimal k)) (member (codes "url") (string entry.url) no_members)))

abbrev pub entries_data : ℕ → List Entry → Items
entries_data k [] = no_items
entries_data k (entry ∷ entries) = item (entry_data k entry) (entries_data (suc k) entries)

-- the list of scripts
unfoldable pub scripts_data : List Entry → Data
scripts_data entries = array (entries_data 0 entries)

-- the object of the one member `result`
abbrev pub result_data : List Entry → Data
result_data entries = object (member (codes "result") (scripts_data entries) no_members)

-- the text of a file with lists of this form
unfoldable pub file_in : ListForm → List Snapshot → List ℕ
file_in form snapshots = compact_text (result_data (scripts_in form snapshots))

-- the text of the normal file
abbrev pub file : List Snapshot → List ℕ
file = file_in Nested
