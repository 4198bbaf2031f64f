-- An lcov trace, line by line.
use Rattle.std.specs.Prelude.{ℕ, List, [], ◌∷◌, ◌++◌, map, unwrap_or, flat_map, codes, decimal}
use Rattle.std.specs.List.{enumerate_from}
use Rattle.istanbul_json.specs.declared.file.Function.{Function}
use Rattle.istanbul_json.specs.declared.file.Branch.{Branch}
use Rattle.istanbul_json.specs.declared.file.FileParts.{FileParts}
use Rattle.cov_text.specs.Listing.{cleaned}
use Rattle.lcov_text.specs.declared.counts.LineCount.{LineCount}
use Rattle.lcov_text.specs.declared.counts.Share.{Share}
use Rattle.lcov_text.specs.Counts.{line_counts, counts_of_lines, counts_of_branches, counts_of_functions, share_of}

-- a word and a number
abbrev pub numbered : List ℕ → ℕ → List ℕ
numbered word n = word ++ decimal n

-- numbers with commas between them
abbrev pub commas : ℕ → List ℕ → List ℕ
commas n rest = decimal n ++ 44 ∷ rest

-- how many there are, and how many of them were run
abbrev pub totals : List ℕ → List ℕ → Share → List (List ℕ)
totals all hit s = numbered all s.all ∷ numbered hit s.hit ∷ []

abbrev pub head_lines : List ℕ → List (List ℕ)
head_lines path = codes "TN:" ∷ (codes "SF:" ++ cleaned path) ∷ []

-- ---- functions

abbrev pub function_line : Function → List ℕ
function_line f = codes "FN:" ++ commas (unwrap_or f.line 0) (cleaned f.name)

abbrev pub function_count : Function → List ℕ
function_count f = codes "FNDA:" ++ commas f.count (cleaned f.name)

abbrev pub function_lines : List Function → List (List ℕ)
function_lines fs = map function_line fs ++ (totals (codes "FNF:") (codes "FNH:") (share_of (counts_of_functions fs)) ++ map function_count fs)

-- ---- lines

abbrev pub line_line : LineCount → List ℕ
line_line l = codes "DA:" ++ commas l.line (decimal l.count)

abbrev pub line_lines : List LineCount → List (List ℕ)
line_lines ls = map line_line ls ++ totals (codes "LF:") (codes "LH:") (share_of (counts_of_lines ls))

-- ---- branches

-- location l of the branch at place b
abbrev pub location_line : ℕ → ℕ → ℕ × ℕ → List ℕ
location_line line b l = codes "BRDA:" ++ commas line (commas b (commas l.0 (decimal l.1)))

abbrev pub location_lines : ℕ × Branch → List (List ℕ)
location_lines b = map (location_line (unwrap_or b.1.line 0) b.0) (enumerate_from 0 b.1.counts)

abbrev pub branch_lines : List Branch → List (List ℕ)
branch_lines bs = flat_map location_lines (enumerate_from 0 bs) ++ totals (codes "BRF:") (codes "BRH:") (share_of (counts_of_branches bs))

-- ---- files

-- the lines of a file
abbrev pub record_lines : FileParts → List (List ℕ)
record_lines f = head_lines f.path ++ (function_lines f.functions ++ (line_lines (line_counts f) ++ (branch_lines f.branches ++ codes "end_of_record" ∷ [])))

-- each line with its end
abbrev pub ended_lines : List (List ℕ) → List ℕ
ended_lines ls = flat_map (λ l. l ++ 10 ∷ []) ls

-- the trace of files
unfoldable pub lcov : List FileParts → List ℕ
lcov files = flat_map (λ f. ended_lines (record_lines f)) files
