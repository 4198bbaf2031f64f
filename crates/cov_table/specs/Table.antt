-- The table of files: a head, a line for all, and a line for each.
use Rattle.std.specs.Prelude.{ℕ, suc, ◌-◌, max, List, [], ◌∷◌, ◌++◌, length, map, replicate, ◌==◌, if◌then◌else◌, filter, flat_map, fold, chars, codes, decimal}
use Rattle.std.specs.List.{join_with_byte}
use Rattle.istanbul_json.specs.declared.file.FileParts.{FileParts}
use Rattle.cov_text.specs.Listing.{cleaned}
use Rattle.lcov_text.specs.declared.counts.LineCount.{LineCount}
use Rattle.lcov_text.specs.Counts.{line_counts}
use Rattle.cov_table.specs.declared.runs.Run.{Run}
use Rattle.cov_table.specs.declared.shares.Summary.{Summary}
use Rattle.cov_table.specs.Shares.{summary, percent}

-- filled with spaces on the right, or on the left, to this many characters
abbrev pub filled : ℕ → List ℕ → List ℕ
filled width text = text ++ replicate (width - length (chars text)) 32

abbrev pub right_in : ℕ → List ℕ → List ℕ
right_in width text = replicate (width - length (chars text)) 32 ++ text

-- a field behind a bar
abbrev pub barred : List ℕ → List ℕ
barred text = codes " | " ++ text

-- ---- uncovered lines

abbrev pub one_line : ℕ → Run
one_line n = record { first = n; last = n }

-- n before the runs of consecutive numbers behind it
abbrev pub before_runs : ℕ → List Run → List Run
before_runs n [] = one_line n ∷ []
before_runs n (run ∷ runs) = if suc n == run.first then record { first = n; last = run.last } ∷ runs else one_line n ∷ run ∷ runs

-- rising numbers as runs, each from its first to its last
abbrev pub runs : List ℕ → List Run
runs [] = []
runs (n ∷ ns) = before_runs n (runs ns)

abbrev pub run_text : Run → List ℕ
run_text run = if run.first == run.last then decimal run.first else decimal run.first ++ 45 ∷ decimal run.last

-- the lines of count 0
abbrev pub uncovered : List LineCount → List ℕ
uncovered lines = map (λ line. line.line) (filter (λ line. line.count == 0) lines)

-- runs behind a bar, if there are any
abbrev pub runs_field : List Run → List ℕ
runs_field [] = []
runs_field (run ∷ runs) = barred (join_with_byte 44 (map run_text (run ∷ runs)))

-- ---- lines

-- three fields, right in six places
abbrev pub fields : List ℕ → List ℕ → List ℕ → List ℕ
fields a b c = barred (right_in 6 a) ++ (barred (right_in 6 b) ++ barred (right_in 6 c))

abbrev pub row : ℕ → List ℕ → List ℕ → List ℕ → List ℕ
row width name columns last = filled width name ++ (columns ++ (last ++ 10 ∷ []))

abbrev pub percents : Summary → List ℕ
percents s = fields (percent s.lines) (percent s.branches) (percent s.functions)

abbrev pub head_row : ℕ → List ℕ
head_row width = row width (codes "File") (fields (codes "Lines") (codes "Branch") (codes "Funcs")) (barred (codes "Uncovered"))

abbrev pub all_row : ℕ → Summary → List ℕ
all_row width s = row width (codes "All files") (percents s) []

abbrev pub file_row : ℕ → FileParts → List ℕ
file_row width f = row width (cleaned f.path) (percents (summary (f ∷ []))) (runs_field (runs (uncovered (line_counts f))))

-- how wide a path is shown, in characters
abbrev pub shown_width : List ℕ → ℕ
shown_width path = length (chars (cleaned path))

-- the longest of `All files` and the paths
abbrev pub width_of : List FileParts → ℕ
width_of files = fold max 9 (map (λ f. shown_width f.path) files)

-- the text of the table
unfoldable pub table : List FileParts → List ℕ
table files = let width = width_of files in head_row width ++ (all_row width (summary files) ++ flat_map (file_row width) files)
