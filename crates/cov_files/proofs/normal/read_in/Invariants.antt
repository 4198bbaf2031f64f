use Rattle.cov_files.proofs.normal.read_in.Given as goal

-- the ledger of a counter that was just made
abbrev pub ghosts-book_of : goal.ghosts-book_of
ghosts-book_of a = record { name = a.blank.name; parts = a.blank.parts }
