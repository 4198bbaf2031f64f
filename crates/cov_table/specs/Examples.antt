-- Worked examples of tables and thresholds.
use Rattle.std.specs.Prelude.{◌≡◌, ℕ, true, false, List, [], ◌∷◌, codes}
use Rattle.istanbul_json.specs.Examples.{two_lines_file}
use Rattle.cov_table.specs.Shares.{summary, hundredths, is_below, check_text}
use Rattle.cov_table.specs.Table.{table, runs}

abbrev pub two_lines_table : List ℕ
two_lines_table = codes "File      |  Lines | Branch |  Funcs | Uncovered\nAll files |  50.00 |  50.00 | 100.00\n/a.js     |  50.00 |  50.00 | 100.00 | 2\n"

abbrev pub TableOfTwoLines : Type 0
TableOfTwoLines = table (two_lines_file ∷ []) ≡ two_lines_table

-- one threshold missed, and none
abbrev pub Thresholds : Type 0
Thresholds =
    (check_text (summary (two_lines_file ∷ [])) 50 60 0 ≡ codes "branches 50.00 below 60\n")
    × (check_text (summary (two_lines_file ∷ [])) 50 50 0 ≡ [])

abbrev pub NothingCountsAsAll : Type 0
NothingCountsAsAll = check_text (summary []) 100 100 100 ≡ []

abbrev pub TwoOfThree : Type 0
TwoOfThree =
    (hundredths (record { hit = 2; all = 3 }) ≡ 6666)
    × (is_below (record { hit = 2; all = 3 }) 67 ≡ true)
    × (is_below (record { hit = 2; all = 3 }) 66 ≡ false)

-- consecutive lines are one part; no file is a table of two lines
abbrev pub Parts : Type 0
Parts =
    (runs (1 ∷ 2 ∷ 3 ∷ 5 ∷ 7 ∷ 8 ∷ []) ≡ record { first = 1; last = 3 } ∷ record { first = 5; last = 5 } ∷ record { first = 7; last = 8 } ∷ [])
    × (table [] ≡ codes "File      |  Lines | Branch |  Funcs | Uncovered\nAll files | 100.00 | 100.00 | 100.00\n")
