-- Worked examples of coverage files.
use Rattle.std.specs.Prelude.{◌≡◌, ℕ, List, [], ◌∷◌, ◌++◌, None, Some, Ok, Err, codes}
use Rattle.istanbul_json.specs.declared.file.Loc.{Loc}
use Rattle.istanbul_json.specs.declared.file.Statement.{Statement}
use Rattle.istanbul_json.specs.declared.file.Branch.{Branch}
use Rattle.istanbul_json.specs.declared.file.FileParts.{FileParts}
use Rattle.istanbul_json.specs.declared.file.CoverageField.TheVariants.{Top, Path, FnMap, S, F, B}
use Rattle.istanbul_json.specs.declared.file.CoverageFault.TheVariants.{Syntax, Missing, Wrong, Keys}
use Rattle.istanbul_json.specs.Value.{files_text}
use Rattle.istanbul_json.specs.Coverage.{coverage_reading}

abbrev pub loc : ℕ → ℕ → ℕ → ℕ → Loc
loc line column end_line end_column = record { start = record { line = Some line; column = Some column }; end = record { line = Some end_line; column = Some end_column } }

abbrev pub statement : List ℕ → Loc → ℕ → Statement
statement key at count = record { key = key; loc = at; count = count }

abbrev pub branch : List ℕ → Loc → ℕ → Branch
branch key at count = record { key = key; kind = codes "branch"; loc = at; locations = at ∷ []; line = at.start.line; counts = count ∷ [] }

-- `a();` and `b();`, of which the second was never run
abbrev pub two_lines_file : FileParts
two_lines_file = record {
  path = codes "/a.js";
  statements = statement (codes "0") (loc 1 0 1 4) 1 ∷ statement (codes "1") (loc 2 0 2 4) 0 ∷ [];
  functions = [];
  branches = branch (codes "0") (loc 1 0 2 4) 1 ∷ branch (codes "1") (loc 2 0 2 4) 0 ∷ [];
}

abbrev pub before_f : List ℕ
before_f =
    codes "{\"/a.js\":{\"b\":{\"0\":[1],\"1\":[0]},\"branchMap\":{\"0\":{\"line\":1,\"loc\":{\"end\":{\"column\":4,\"line\":2},\"start\":{\"column\":0,\"line\":1}},\"locations\":[{\"end\":{\"column\":4,\"line\":2},\"start\":{\"column\":0,\"line\":1}}],\"type\":\"branch\"},\"1\":{\"line\":2,\"loc\":{\"end\":{\"column\":4,\"line\":2},\"start\":{\"column\":0,\"line\":2}},\"locations\":[{\"end\":{\"column\":4,\"line\":2},\"start\":{\"column\":0,\"line\":2}}],\"type\":\"branch\"}},"

abbrev pub before_s : List ℕ
before_s = codes "\"fnMap\":{},\"path\":\"/a.js\","

abbrev pub behind_s : List ℕ
behind_s = codes "\"statementMap\":{\"0\":{\"end\":{\"column\":4,\"line\":1},\"start\":{\"column\":0,\"line\":1}},\"1\":{\"end\":{\"column\":4,\"line\":2},\"start\":{\"column\":0,\"line\":2}}}}}"

-- the text with this `f` and this `s`
abbrev pub text_with : List ℕ → List ℕ → List ℕ
text_with f s = before_f ++ (f ++ (before_s ++ (s ++ behind_s)))

abbrev pub two_lines_text : List ℕ
two_lines_text = text_with (codes "\"f\":{},") (codes "\"s\":{\"0\":1,\"1\":0},")

abbrev pub TextOfTwoLines : Type 0
TextOfTwoLines = files_text (two_lines_file ∷ []) ≡ two_lines_text

abbrev pub ReadsBack : Type 0
ReadsBack = coverage_reading two_lines_text ≡ Ok (two_lines_file ∷ [])

-- without `f`, and with a key too few in `s`
abbrev pub WithoutAMember : Type 0
WithoutAMember =
    (coverage_reading (text_with [] (codes "\"s\":{\"0\":1,\"1\":0},")) ≡ Err (Missing 0 F))
    × (coverage_reading (text_with (codes "\"f\":{},") (codes "\"s\":{\"0\":1},")) ≡ Err (Keys 0 S))

-- keys stand in byte order in the text, and shorter ones first in the list
abbrev pub keys_text : List ℕ
keys_text = codes "{\"a\":{\"b\":{},\"branchMap\":{},\"f\":{},\"fnMap\":{},\"path\":\"a\",\"s\":{\"10\":1,\"2\":0},\"statementMap\":{\"10\":{\"end\":{\"column\":null,\"line\":null},\"start\":{\"column\":0,\"line\":1}},\"2\":{\"end\":{\"column\":null,\"line\":null},\"start\":{\"column\":0,\"line\":1}}}}}"

abbrev pub open_loc : Loc
open_loc = record { start = record { line = Some 1; column = Some 0 }; end = record { line = None; column = None } }

abbrev pub keys_file : FileParts
keys_file = record {
  path = codes "a";
  statements = statement (codes "2") open_loc 0 ∷ statement (codes "10") open_loc 1 ∷ [];
  functions = [];
  branches = [];
}

abbrev pub KeysInOrder : Type 0
KeysInOrder = (coverage_reading keys_text ≡ Ok (keys_file ∷ [])) × (files_text (keys_file ∷ []) ≡ keys_text)

abbrev pub FaultsInOrder : Type 0
FaultsInOrder =
    (coverage_reading (codes "[]") ≡ Err (Wrong 0 Top))
    × (coverage_reading (codes "{\"a\":1}") ≡ Err (Wrong 0 Top))
    × (coverage_reading (codes "{\"a\":{\"path\":\"b\"}}") ≡ Err (Wrong 0 Path))
    × (coverage_reading (codes "{\"a\":{\"path\":\"a\",\"statementMap\":{},\"fnMap\":{\"0\":{\"name\":\"f\",\"decl\":{\"start\":{},\"end\":{}},\"loc\":{\"start\":{},\"end\":{\"line\":-1}}}}}}") ≡ Err (Wrong 0 FnMap))
    × (coverage_reading (codes "{\"a\":{\"path\":\"a\",\"statementMap\":{},\"fnMap\":{},\"branchMap\":{\"0\":{\"type\":\"if\",\"loc\":{\"start\":{},\"end\":{}},\"locations\":[]}},\"s\":{},\"f\":{},\"b\":{\"0\":[1]}}}") ≡ Err (Keys 0 B))
    × (coverage_reading (codes "{} x") ≡ Err Syntax)
