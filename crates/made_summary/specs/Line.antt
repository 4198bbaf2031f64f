-- The line of what made snapshots come to.
use Rattle.std.specs.Prelude.{◌++◌, ℕ, List, length, codes, decimal}
use Rattle.cov_model.specs.File.{file}
use Rattle.cov_book.specs.declared.numbers.Numbers.{Numbers}
use Rattle.cov_book.specs.Numbers.{numbers_of}
use Rattle.made_snapshots.specs.Made.{made}

-- the line of so many snapshots, of which these are the numbers, and whose normal file has so many bytes
abbrev pub summary_line : ℕ → Numbers → ℕ → List ℕ
summary_line count numbers bytes =
    codes "snapshots " ++ (decimal count ++ (codes " scripts " ++ (decimal numbers.scripts ++ (codes " functions " ++ (decimal numbers.functions
    ++ (codes " ranges " ++ (decimal numbers.ranges ++ (codes " roots " ++ (decimal numbers.roots ++ (codes " bytes " ++ (decimal bytes ++ codes "\n")))))))))))

-- the line of the first so many snapshots that are made of a seed
abbrev pub made_line : ℕ → ℕ → List ℕ
made_line seed count = summary_line count (numbers_of (made seed count)) (length (file (made seed count)))
