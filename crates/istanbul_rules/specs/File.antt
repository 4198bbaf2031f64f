-- The coverage of a file, of all its parts.
use Rattle.std.specs.Prelude.{ℕ, ◌-◌, Bool, false, not, List, [], ◌∷◌, length, map, Option, option_map, option_and_then, unwrap_or, filter, filter_map, flat_map, slice_get, codes, decimal}
use Rattle.std.specs.List.{enumerate_from}
use Rattle.cov_text.specs.Listing.{offsets}
use Rattle.utf16_lines.specs.Table.{Table}
use Rattle.utf16_lines.specs.Lines.{table_of, line_length}
use Rattle.istanbul_json.specs.declared.file.Loc.{Loc}
use Rattle.istanbul_json.specs.declared.file.Statement.{Statement}
use Rattle.istanbul_json.specs.declared.file.Function.{Function}
use Rattle.istanbul_json.specs.declared.file.Branch.{Branch}
use Rattle.istanbul_json.specs.declared.file.FileParts.{FileParts}
use Rattle.istanbul_rules.specs.declared.part.Part.{Part}
use Rattle.istanbul_rules.specs.declared.part.PartBranch.{PartBranch}
use Rattle.istanbul_rules.specs.declared.part.PartFunction.{PartFunction}
use Rattle.istanbul_rules.specs.Ignored.{ignored}
use Rattle.istanbul_rules.specs.Parts.{greatest, mark}

-- line i is ignored
abbrev pub is_off : List Bool → ℕ → Bool
is_off off i = unwrap_or (slice_get off i) false

-- the location begins on an ignored line
abbrev pub begins_off : List Bool → Loc → Bool
begins_off off loc = unwrap_or (option_map (λ line. is_off off (line - 1)) loc.start.line) false

-- the count that a part gives to line i
abbrev pub count_in : ℕ → Part → Option ℕ
count_in i part = option_and_then (λ count. count) (slice_get part.lines i)

-- the greatest count that the parts give to line i
abbrev pub line_count : List Part → ℕ → Option ℕ
line_count parts i = greatest (filter_map (count_in i) parts)

abbrev pub whole_line : Table → ℕ → Loc
whole_line table i = record { start = mark i 0; end = mark i (line_length table i) }

-- a line with its count
abbrev pub counted_line : List Part → ℕ → Option (ℕ × ℕ)
counted_line parts i = option_map (λ count. (i, count)) (line_count parts i)

-- the lines from line i on that have a count and aren't ignored
abbrev pub counted_from : List Bool → List Part → ℕ → List (ℕ × ℕ)
counted_from off parts i = filter_map (counted_line parts) (filter (λ i. not (is_off off i)) (offsets i (length off)))

-- each element by f, which is given its place as a key, from this place on
abbrev pub keyed : {A C : Type 0} → (List ℕ → A → C) → ℕ → List A → List C
keyed f place xs = map (λ x. f (decimal x.0) x.1) (enumerate_from place xs)

abbrev pub statement : Table → List ℕ → ℕ × ℕ → Statement
statement table key line = record { key = key; loc = whole_line table line.0; count = line.1 }

abbrev pub statements_of : Table → List Bool → List Part → List Statement
statements_of table off parts = keyed (statement table) 0 (counted_from off parts 0)

abbrev pub function : List ℕ → PartFunction → Function
function key f = record { key = key; name = f.name; decl = f.loc; loc = f.loc; line = f.loc.start.line; count = f.count }

abbrev pub is_function_on : List Bool → PartFunction → Bool
is_function_on off f = not (begins_off off f.loc)

-- the functions of all parts that begin on no ignored line
abbrev pub functions_in : List Bool → List Part → List Function
functions_in off parts = keyed function 0 (filter (is_function_on off) (flat_map (λ part. part.functions) parts))

abbrev pub branch : List ℕ → PartBranch → Branch
branch key b = record { key = key; kind = codes "branch"; loc = b.loc; locations = b.loc ∷ []; line = b.loc.start.line; counts = b.count ∷ [] }

abbrev pub is_branch_on : List Bool → PartBranch → Bool
is_branch_on off b = not (begins_off off b.loc)

-- the branches of all parts that begin on no ignored line
abbrev pub branches_in : List Bool → List Part → List Branch
branches_in off parts = keyed branch 0 (filter (is_branch_on off) (flat_map (λ part. part.branches) parts))

-- the coverage of the file at a path, with this text and these parts
unfoldable pub file_coverage : List ℕ → List ℕ → List Part → FileParts
file_coverage path text parts =
    let off = ignored text in
    record {
      path = path;
      statements = statements_of (table_of text) off parts;
      functions = functions_in off parts;
      branches = branches_in off parts;
    }
