-- Worked examples of traces.
use Rattle.std.specs.Prelude.{◌≡◌, ℕ, List, [], ◌∷◌, None, Some, codes}
use Rattle.istanbul_json.specs.declared.file.FileParts.{FileParts}
use Rattle.istanbul_json.specs.Examples.{two_lines_file, open_loc, statement}
use Rattle.lcov_text.specs.Lcov.{lcov}

abbrev pub two_lines_trace : List ℕ
two_lines_trace = codes "TN:\nSF:/a.js\nFNF:0\nFNH:0\nDA:1,1\nDA:2,0\nLF:2\nLH:1\nBRDA:1,0,0,1\nBRDA:2,1,0,0\nBRF:2\nBRH:1\nend_of_record\n"

abbrev pub TraceOfTwoLines : Type 0
TraceOfTwoLines = lcov (two_lines_file ∷ []) ≡ two_lines_trace

abbrev pub NoFile : Type 0
NoFile = lcov [] ≡ []

-- two statements on one line, a control character, an absent line, and a branch of two locations
abbrev pub odd_file : FileParts
odd_file = record {
  path = codes "a\nb";
  statements = statement (codes "0") open_loc 2 ∷ statement (codes "1") open_loc 3 ∷ [];
  functions = record { key = codes "0"; name = codes "f"; decl = open_loc; loc = open_loc; line = None; count = 7 } ∷ [];
  branches = record { key = codes "0"; kind = codes "if"; loc = open_loc; locations = open_loc ∷ open_loc ∷ []; line = Some 4; counts = 1 ∷ 0 ∷ [] } ∷ [];
}

abbrev pub OddFile : Type 0
OddFile = lcov (odd_file ∷ []) ≡ codes "TN:\nSF:a?b\nFN:0,f\nFNF:1\nFNH:1\nFNDA:7,f\nDA:1,3\nLF:1\nLH:1\nBRDA:4,0,0,1\nBRDA:4,0,1,0\nBRF:2\nBRH:1\nend_of_record\n"
