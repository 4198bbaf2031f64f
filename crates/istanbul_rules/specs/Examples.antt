-- Worked examples of lines, parts and files.
use Rattle.std.specs.Prelude.{◌≡◌, ℕ, true, false, List, [], ◌∷◌, length, Option, None, Some, codes}
use Rattle.cov_model.specs.declared.report.Range.{Range}
use Rattle.cov_model.specs.declared.report.FunctionReport.{FunctionReport}
use Rattle.cov_model.specs.Normal.{range}
use Rattle.utf16_lines.specs.Lines.{units, table_of}
use Rattle.source_maps.specs.declared.map.MapSegment.{MapSegment}
use Rattle.utf16_lines.specs.Table.{Table}
use Rattle.istanbul_json.specs.declared.file.FileParts.{FileParts}
use Rattle.istanbul_json.specs.Examples.{loc, statement, branch}
use Rattle.istanbul_rules.specs.declared.part.Part.{Part}
use Rattle.istanbul_rules.specs.Ignored.{ignored}
use Rattle.istanbul_rules.specs.Parts.{direct_part, mapped_part}
use Rattle.istanbul_rules.specs.File.{file_coverage}

abbrev pub unnamed : List Range → List FunctionReport
unnamed ranges = record { name = []; block = true; ranges = ranges } ∷ []

-- ---- a loop and a conditional

abbrev pub loop_text : List ℕ
loop_text = codes "for (x of a) {\n  x ? f() : g();\n}\n"

abbrev pub flat_ranges : List Range
flat_ranges = range 0 34 1 ∷ range 13 19 10 ∷ range 19 24 4 ∷ range 24 30 6 ∷ range 30 33 10 ∷ []

abbrev pub nested_ranges : List Range
nested_ranges = range 0 34 1 ∷ range 13 33 10 ∷ range 19 24 4 ∷ range 24 30 6 ∷ []

abbrev pub lines_of : Part → List (Option ℕ)
lines_of part = part.lines

abbrev pub LinesOfALoop : Type 0
LinesOfALoop =
    (length (units loop_text) ≡ 34)
    × (lines_of (direct_part (table_of loop_text) (unnamed flat_ranges)) ≡ Some 1 ∷ Some 1 ∷ Some 10 ∷ [])
    × (lines_of (direct_part (table_of loop_text) (unnamed nested_ranges)) ≡ Some 1 ∷ Some 10 ∷ Some 10 ∷ [])

-- its coverage
abbrev pub FileOfALoop : Type 0
FileOfALoop =
    file_coverage (codes "/a.js") loop_text (direct_part (table_of loop_text) (unnamed flat_ranges) ∷ [])
    ≡ record {
      path = codes "/a.js";
      statements = statement (codes "0") (loc 1 0 1 14) 1 ∷ statement (codes "1") (loc 2 0 2 16) 1 ∷ statement (codes "2") (loc 3 0 3 1) 10 ∷ [];
      functions = [];
      branches =
          branch (codes "0") (loc 1 0 3 1) 1
          ∷ branch (codes "1") (loc 1 13 2 4) 10
          ∷ branch (codes "2") (loc 2 4 2 9) 4
          ∷ branch (codes "3") (loc 2 9 2 15) 6
          ∷ branch (codes "4") (loc 2 15 3 1) 10
          ∷ [];
    }

-- ---- comments

abbrev pub ReachOfNext : Type 0
ReachOfNext = ignored (codes "a();\nb(); /* c8 ignore next 2 */\nc();\nd();\ne();\n") ≡ false ∷ true ∷ true ∷ true ∷ false ∷ []

-- from a start to a stop, both included; a next without a number, with 0, and with ten digits, which is none
abbrev pub OtherComments : Type 0
OtherComments =
    (ignored (codes "a\n/* c8 ignore start */\nb\n/* c8 ignore stop */\nc") ≡ false ∷ true ∷ true ∷ true ∷ false ∷ [])
    × (ignored (codes "/* c8 ignore start */* c8 ignore stop */\nb\n") ≡ true ∷ false ∷ [])
    × (ignored (codes "/* c8 ignore next */\nb\nc") ≡ true ∷ true ∷ false ∷ [])
    × (ignored (codes "/* c8 ignore next 0 */\nb") ≡ true ∷ false ∷ [])
    × (ignored (codes "/* c8 ignore next 0000000001 */\nb") ≡ false ∷ false ∷ [])
    × (ignored [] ≡ [])

-- the second line and its branch are ignored
abbrev pub commented_text : List ℕ
commented_text = codes "a();\nb();/* c8 ignore start */\n"

abbrev pub IgnoredFile : Type 0
IgnoredFile =
    file_coverage (codes "/a.js") commented_text (direct_part (table_of commented_text) (unnamed (range 0 10 1 ∷ range 5 9 0 ∷ [])) ∷ [])
    ≡ record {
      path = codes "/a.js";
      statements = statement (codes "0") (loc 1 0 1 4) 1 ∷ [];
      functions = [];
      branches = branch (codes "0") (loc 1 0 2 5) 1 ∷ [];
    }

-- ---- through a map

-- two generated lines of four units, from the lines 0 and 2 of one source
abbrev pub two_segments : List MapSegment
two_segments =
    record { line = 0; column = 0; origin = Some (record { source = 0; line = 0; column = 0; name = None }) }
    ∷ record { line = 1; column = 0; origin = Some (record { source = 0; line = 2; column = 0; name = None }) }
    ∷ []

abbrev pub generated_table : Table
generated_table = record {
  spans = record { start = 0; end = 4 } ∷ record { start = 5; end = 9 } ∷ record { start = 10; end = 10 } ∷ [];
  units = 10;
}

abbrev pub source_text : List ℕ
source_text = codes "a();\n// note\nb();\n"

abbrev pub source_file : FileParts
source_file = record {
  path = codes "/app/in.ts";
  statements = statement (codes "0") (loc 1 0 1 4) 1 ∷ statement (codes "1") (loc 3 0 3 4) 0 ∷ [];
  functions = [];
  branches = branch (codes "0") (loc 1 0 3 4) 1 ∷ branch (codes "1") (loc 3 0 3 4) 0 ∷ [];
}

abbrev pub MappedFile : Type 0
MappedFile =
    file_coverage (codes "/app/in.ts") source_text
    (mapped_part (table_of source_text) generated_table two_segments 0 (unnamed (range 0 10 1 ∷ range 5 9 0 ∷ [])) ∷ [])
    ≡ source_file
