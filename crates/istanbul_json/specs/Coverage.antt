-- The coverage files that a text is, or its first fault.
use Rattle.std.specs.Prelude.{ℕ, suc, Bool, ◌&&◌, List, [], ◌∷◌, length, map, zip, nat_lt, ◌==◌, if◌then◌else◌, Option, Result, Ok, Err, codes, ⊤}
use Rattle.std.specs.Cmp.Lexicographic.{pointwise}
use Rattle.serde_json.specs.Data.{Data, Members, no_members, member}
use Rattle.serde_json.specs.Find.{get, as_object}
use Rattle.cov_text.specs.Listing.{same_text, max_text}
use Rattle.json_shapes.specs.Shapes.{◌>>=◌, or_fault, whole, parsed}
use Rattle.json_shapes.specs.Members.{listed, keyed}
use Rattle.istanbul_json.specs.declared.file.Loc.{Loc}
use Rattle.istanbul_json.specs.declared.file.Statement.{Statement}
use Rattle.istanbul_json.specs.declared.file.Function.{Function}
use Rattle.istanbul_json.specs.declared.file.Branch.{Branch}
use Rattle.istanbul_json.specs.declared.file.FileParts.{FileParts}
use Rattle.istanbul_json.specs.declared.file.CoverageField.{CoverageField}
use Rattle.istanbul_json.specs.declared.file.CoverageField.TheVariants.{Top, Path, StatementMap, FnMap, BranchMap, S, F, B}
use Rattle.istanbul_json.specs.declared.file.CoverageFault.{CoverageFault}
use Rattle.istanbul_json.specs.declared.file.CoverageFault.TheVariants.{TooLong, Syntax, Missing, Wrong, Keys}
use Rattle.istanbul_json.specs.Kept.{by_key}
use Rattle.istanbul_json.specs.declared.entry.FunctionEntry.{FunctionEntry}
use Rattle.istanbul_json.specs.declared.entry.BranchEntry.{BranchEntry}
use Rattle.istanbul_json.specs.Members.{loc_of, function_of, branch_of, path_as}

-- ---- a file

-- the member: it is missing, or wrong, or there
abbrev pub member_as : {A : Type 0} → (Data → Option A) → ℕ → CoverageField → List ℕ → Data → Result A CoverageFault
member_as reads file field key d = or_fault (Missing file field) (get key d) >>= λ m. or_fault (Wrong file field) (reads m)

abbrev pub fault_unless : Bool → CoverageFault → Result ⊤ CoverageFault
fault_unless test fault = if test then Ok tt else Err fault

-- both have the same keys, each in byte order
abbrev pub same_keys : {A C : Type 0} → List (List ℕ × A) → List (List ℕ × C) → Bool
same_keys {A} {C} xs ys = pointwise same_text (map (λ x. x.0) xs) (map (λ y. y.0) ys)

-- each branch has as many counts as locations
abbrev pub as_many_counts : List (List ℕ × BranchEntry) → List (List ℕ × List ℕ) → Bool
as_many_counts branches counts = pointwise ◌==◌ (map (λ b. length b.1.locations) branches) (map (λ c. length c.1) counts)

abbrev pub statement : (List ℕ × Loc) × (List ℕ × ℕ) → Statement
statement x = record { key = x.0.0; loc = x.0.1; count = x.1.1 }

abbrev pub function : (List ℕ × FunctionEntry) × (List ℕ × ℕ) → Function
function x = record { key = x.0.0; name = x.0.1.name; decl = x.0.1.decl; loc = x.0.1.loc; line = x.0.1.line; count = x.1.1 }

abbrev pub branch : (List ℕ × BranchEntry) × (List ℕ × List ℕ) → Branch
branch x = record { key = x.0.0; kind = x.0.1.kind; loc = x.0.1.loc; locations = x.0.1.locations; line = x.0.1.line; counts = x.1.1 }

-- the file at place k, under this name
abbrev pub file_of : ℕ → List ℕ → Data → Result FileParts CoverageFault
file_of k name d = do
  _object ← or_fault (Wrong k Top) (as_object d)
  path ← member_as (path_as name) k Path (codes "path") d
  statements ← member_as (keyed loc_of) k StatementMap (codes "statementMap") d
  functions ← member_as (keyed function_of) k FnMap (codes "fnMap") d
  branches ← member_as (keyed branch_of) k BranchMap (codes "branchMap") d
  s ← member_as (keyed whole) k S (codes "s") d
  f ← member_as (keyed whole) k F (codes "f") d
  b ← member_as (keyed (listed whole)) k B (codes "b") d
  _s ← fault_unless (same_keys statements s) (Keys k S)
  _f ← fault_unless (same_keys functions f) (Keys k F)
  _b ← fault_unless (same_keys branches b && as_many_counts branches b) (Keys k B)
  Ok (record {
    path = path;
    statements = by_key (λ x. x.key) (map statement (zip statements s));
    functions = by_key (λ x. x.key) (map function (zip functions f));
    branches = by_key (λ x. x.key) (map branch (zip branches b));
  })

-- the files from place k on, in byte order of their paths
abbrev pub files_from : ℕ → Members → Result (List FileParts) CoverageFault
files_from k no_members = Ok []
files_from k (member name d ms) = file_of k name d >>= λ f. files_from (suc k) ms >>= λ fs. Ok (f ∷ fs)

-- the files that a JSON value is, or its first fault
unfoldable pub files_of : Data → Result (List FileParts) CoverageFault
files_of d = or_fault (Wrong 0 Top) (as_object d) >>= files_from 0

-- the files that a text is, or its first fault
unfoldable pub coverage_reading : List ℕ → Result (List FileParts) CoverageFault
coverage_reading bytes = if nat_lt max_text (length bytes) then Err TooLong else (or_fault Syntax (parsed bytes) >>= files_of)
