-- Worked examples of reports, from the bytes of the texts on.
use Rattle.std.specs.Prelude.{◌≡◌, ℕ, List, [], ◌∷◌, ◌++◌, Some, codes}
use Rattle.cov_io.specs.Told.{Files}
use Rattle.istanbul_json.specs.declared.file.FileParts.{FileParts}
use Rattle.istanbul_json.specs.Examples.{loc, statement, branch, two_lines_file}
use Rattle.cov_report.specs.declared.answer.Report.{Report}
use Rattle.cov_report.specs.Texts.{report_of_texts, skip_lines}

-- ---- a script with a map

abbrev pub mapped_results : List ℕ
mapped_results = codes "{\"result\":[{\"scriptId\":\"1\",\"url\":\"file:///app/out.js\",\"functions\":[{\"functionName\":\"\",\"ranges\":[{\"startOffset\":0,\"endOffset\":10,\"count\":1},{\"startOffset\":5,\"endOffset\":9,\"count\":0}],\"isBlockCoverage\":true}]},{\"scriptId\":\"2\",\"url\":\"node:fs\",\"functions\":[]}],\"timestamp\":12.5,\"source-map-cache\":{\"file:///app/out.js\":{\"url\":\"out.js.map\","

-- the text with these lengths and these mappings
abbrev pub mapped_text : List ℕ → List ℕ → List ℕ
mapped_text lengths mappings =
    mapped_results ++ (lengths ++ (codes "\"data\":{\"version\":3,\"sources\":[\"file:///app/in.ts\"],\"sourcesContent\":[\"a();\\n// note\\nb();\\n\"],\"names\":[],\"mappings\":\""
    ++ (mappings ++ codes "\"}}}}")))

abbrev pub three_lengths : List ℕ
three_lengths = codes "\"lineLengths\":[4,4,0],"

-- its source, whose comment has no count
abbrev pub source_file : FileParts
source_file = record {
  path = codes "/app/in.ts";
  statements = statement (codes "0") (loc 1 0 1 4) 1 ∷ statement (codes "1") (loc 3 0 3 4) 0 ∷ [];
  functions = [];
  branches = branch (codes "0") (loc 1 0 3 4) 1 ∷ branch (codes "1") (loc 3 0 3 4) 0 ∷ [];
}

abbrev pub MappedFile : Type 0
MappedFile =
    let r = report_of_texts (mapped_text three_lengths (codes "AAAA;AAEA") ∷ []) [] in
    (r.files ≡ source_file ∷ []) × (skip_lines r.skips ≡ codes "skipped node:fs: not a file\n")

-- without its lengths an entry says nothing, and the script has a direct part, whose file isn't there
abbrev pub WithoutLengths : Type 0
WithoutLengths =
    let r = report_of_texts (mapped_text [] (codes "AAAA;AAEA") ∷ []) [] in
    (r.files ≡ []) × (skip_lines r.skips ≡ codes "skipped file:///app/out.js: absent\nskipped node:fs: not a file\n")

-- a name past the list
abbrev pub RefusedMap : Type 0
RefusedMap =
    let r = report_of_texts (mapped_text three_lengths (codes "AAAAA") ∷ []) [] in
    (r.files ≡ []) × (skip_lines r.skips ≡ codes "skipped file:///app/out.js: bad map\nskipped node:fs: not a file\n")

-- ---- scripts without maps

abbrev pub script_front : List ℕ
script_front = codes "{\"functions\":[{\"functionName\":\"\",\"isBlockCoverage\":true,\"ranges\":[{\"count\":1,\"endOffset\":10,\"startOffset\":0},{\"count\":0,\"endOffset\":9,\"startOffset\":5}]}],\"url\":\""

abbrev pub direct_text : List ℕ
direct_text = codes "{\"result\":[" ++ (script_front ++ codes "file:///a.js\"}]}")

abbrev pub two_lines : Files
two_lines = (codes "/a.js", codes "a();\nb();\n") ∷ []

abbrev pub DirectFile : Type 0
DirectFile = report_of_texts (direct_text ∷ []) two_lines ≡ record { files = two_lines_file ∷ []; skips = [] }

abbrev pub AbsentFile : Type 0
AbsentFile = let r = report_of_texts (direct_text ∷ []) [] in (r.files ≡ []) × (skip_lines r.skips ≡ codes "skipped file:///a.js: absent\n")

-- a file that is no text
abbrev pub NoText : Type 0
NoText = let r = report_of_texts (direct_text ∷ []) ((codes "/a.js", 255 ∷ []) ∷ []) in (r.files ≡ []) × (skip_lines r.skips ≡ codes "skipped file:///a.js: not UTF-8\n")

-- two urls of one path give one file of two parts; where the file isn't there, each is left out
abbrev pub two_urls : List ℕ
two_urls = codes "{\"result\":[" ++ (script_front ++ (codes "file:///a.js\"}," ++ (codes "{\"functions\":[{\"functionName\":\"f\",\"isBlockCoverage\":false,\"ranges\":[{\"count\":2,\"endOffset\":99,\"startOffset\":5}]}],\"url\":\"file:///a.js?2\"}]}")))

abbrev pub SharedPath : Type 0
SharedPath =
    ((report_of_texts (two_urls ∷ []) two_lines).files
    ≡ record {
      path = codes "/a.js";
      statements = statement (codes "0") (loc 1 0 1 4) 1 ∷ statement (codes "1") (loc 2 0 2 4) 2 ∷ [];
      functions = record { key = codes "0"; name = codes "f"; decl = loc 2 0 2 4; loc = loc 2 0 2 4; line = Some 2; count = 2 } ∷ [];
      branches = branch (codes "0") (loc 1 0 2 4) 1 ∷ branch (codes "1") (loc 2 0 2 4) 0 ∷ [];
    } ∷ [])
    × (skip_lines (report_of_texts (two_urls ∷ []) []).skips ≡ codes "skipped file:///a.js: absent\nskipped file:///a.js?2: absent\n")
