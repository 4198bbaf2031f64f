-- What is counted of a file: its lines, its branch locations, its functions.
use Rattle.std.specs.Prelude.{ℕ, min, max, Bool, false, List, map, length, nat_lt, ◌==◌, option_map, unwrap_or, filter, filter_map, flat_map, fold}
use Rattle.std.specs.Ordering.{nat_cmp}
use Rattle.cov_text.specs.Listing.{in_order}
use Rattle.cov_text.specs.Listing.{limit}
use Rattle.istanbul_json.specs.declared.file.Statement.{Statement}
use Rattle.istanbul_json.specs.declared.file.Function.{Function}
use Rattle.istanbul_json.specs.declared.file.Branch.{Branch}
use Rattle.istanbul_json.specs.declared.file.FileParts.{FileParts}
use Rattle.lcov_text.specs.declared.counts.LineCount.{LineCount}
use Rattle.lcov_text.specs.declared.counts.Share.{Share}

-- the start lines of the statements, rising
abbrev pub start_lines : List Statement → List ℕ
start_lines statements = in_order nat_cmp (filter_map (λ s. s.loc.start.line) statements)

abbrev pub starts_on : ℕ → Statement → Bool
starts_on line s = unwrap_or (option_map (λ start. start == line) s.loc.start.line) false

-- the greatest count of the statements that start on the line
abbrev pub count_on : List Statement → ℕ → ℕ
count_on statements line = fold max 0 (map (λ s. s.count) (filter (starts_on line) statements))

-- each line with its count
unfoldable pub line_counts : FileParts → List LineCount
line_counts f = map (λ line. record { line = line; count = count_on f.statements line }) (start_lines f.statements)

-- the counts of lines, of functions and of branch locations
abbrev pub counts_of_lines : List LineCount → List ℕ
counts_of_lines lines = map (λ line. line.count) lines

abbrev pub counts_of_functions : List Function → List ℕ
counts_of_functions functions = map (λ g. g.count) functions

abbrev pub counts_of_branches : List Branch → List ℕ
counts_of_branches branches = flat_map (λ b. b.counts) branches

-- how many there are; a number stays at the greatest 64-bit number
abbrev pub number_of : List ℕ → ℕ
number_of counts = min (length counts) limit

-- how many of these counts are above 0, of how many
abbrev pub share_of : List ℕ → Share
share_of counts = record { hit = number_of (filter (nat_lt 0) counts); all = number_of counts }
