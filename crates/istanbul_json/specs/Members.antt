-- What stands in the members of a coverage file. A reader gives None where something is wrong.
use Rattle.std.specs.Prelude.{ℕ, List, Option, None, Some, option_and_then, if◌then◌else◌, codes}
use Rattle.serde_json.specs.Data.{Data}
use Rattle.serde_json.specs.Find.{get, as_str, as_object}
use Rattle.cov_text.specs.Listing.{same_text}
use Rattle.json_shapes.specs.Shapes.{offset_of}
use Rattle.json_shapes.specs.Members.{listed, if_given}
use Rattle.istanbul_json.specs.declared.file.Mark.{Mark}
use Rattle.istanbul_json.specs.declared.file.Loc.{Loc}
use Rattle.istanbul_json.specs.declared.entry.FunctionEntry.{FunctionEntry}
use Rattle.istanbul_json.specs.declared.entry.BranchEntry.{BranchEntry}

-- A step that refuses ends the reading.
infixl 10 ◌>>=◌
abbrev pub ◌>>=◌ : {A B : Type 0} → Option A → (A → Option B) → Option B
None >>= f = None
(Some x) >>= f = f x

-- the member of this key, as it is read
abbrev pub member_by : {A : Type 0} → (Data → Option A) → List ℕ → Data → Option A
member_by reads key d = option_and_then reads (get key d)

-- a line or a column that may be absent or null
abbrev pub number_by : List ℕ → Data → Option (Option ℕ)
number_by key d = if_given offset_of (get key d)

abbrev pub mark_of : Data → Option Mark
mark_of d = do
  _object ← as_object d
  line ← number_by (codes "line") d
  column ← number_by (codes "column") d
  Some (record { line = line; column = column })

abbrev pub loc_of : Data → Option Loc
loc_of d = do
  start ← member_by mark_of (codes "start") d
  end ← member_by mark_of (codes "end") d
  Some (record { start = start; end = end })

abbrev pub function_of : Data → Option FunctionEntry
function_of d = do
  name ← member_by as_str (codes "name") d
  decl ← member_by loc_of (codes "decl") d
  loc ← member_by loc_of (codes "loc") d
  line ← number_by (codes "line") d
  Some (record { name = name; decl = decl; loc = loc; line = line })

abbrev pub branch_of : Data → Option BranchEntry
branch_of d = do
  kind ← member_by as_str (codes "type") d
  loc ← member_by loc_of (codes "loc") d
  locations ← member_by (listed loc_of) (codes "locations") d
  line ← number_by (codes "line") d
  Some (record { kind = kind; loc = loc; locations = locations; line = line })

-- a path that is this name
abbrev pub path_as : List ℕ → Data → Option (List ℕ)
path_as name d = do
  path ← as_str d
  if same_text path name then Some path else None
