-- Shares of lines, branch locations and functions, their percentages, and thresholds.
use Rattle.std.specs.Prelude.{ℕ, ◌*◌, ◌/◌, ◌%◌, ◌≤◌, Bool, ◌||◌, List, [], ◌∷◌, ◌++◌, nat_lt, ◌==◌, if◌then◌else◌, flat_map, codes, decimal}
use Rattle.istanbul_json.specs.declared.file.FileParts.{FileParts}
use Rattle.lcov_text.specs.declared.counts.Share.{Share}
use Rattle.lcov_text.specs.Counts.{line_counts, counts_of_lines, counts_of_branches, counts_of_functions, share_of}
use Rattle.cov_table.specs.declared.shares.Summary.{Summary}

-- over all files
unfoldable pub summary : List FileParts → Summary
summary files =
    record {
      lines = share_of (flat_map (λ f. counts_of_lines (line_counts f)) files);
      branches = share_of (flat_map (λ f. counts_of_branches f.branches) files);
      functions = share_of (flat_map (λ f. counts_of_functions f.functions) files);
    }

-- of nothing is more hit than there is
pub record IsWithin (s : Summary) : Type 0 where
  pub lines : s.lines.hit ≤ s.lines.all
  pub branches : s.branches.hit ≤ s.branches.all
  pub functions : s.functions.hit ≤ s.functions.all

-- the share in hundredths of a percent, rounded down, and all of it where there is nothing
abbrev pub hundredths : Share → ℕ
hundredths s = if s.all == 0 then 10000 else s.hit * 10000 / s.all

-- it is less than the threshold, in percent
abbrev pub is_below : Share → ℕ → Bool
is_below s threshold = nat_lt (hundredths s) (100 * threshold)

-- some share is below its threshold
abbrev pub misses : Summary → ℕ → ℕ → ℕ → Bool
misses s lines branches functions = is_below s.lines lines || (is_below s.branches branches || is_below s.functions functions)

-- the whole part, a point and two digits
abbrev pub percent : Share → List ℕ
percent s = decimal (hundredths s / 100) ++ 46 ∷ (decimal (hundredths s / 10 % 10) ++ decimal (hundredths s % 10))

-- the line of a share below its threshold
abbrev pub check_line : List ℕ → Share → ℕ → List ℕ
check_line word s threshold = if is_below s threshold then word ++ (32 ∷ (percent s ++ (codes " below " ++ (decimal threshold ++ 10 ∷ [])))) else []

-- the lines of the shares below their thresholds
unfoldable pub check_text : Summary → ℕ → ℕ → ℕ → List ℕ
check_text s lines branches functions =
    check_line (codes "lines") s.lines lines ++ (check_line (codes "branches") s.branches branches ++ check_line (codes "functions") s.functions functions)
