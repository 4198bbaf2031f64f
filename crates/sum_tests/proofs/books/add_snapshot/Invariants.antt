use Rattle.sum_tests.proofs.books.add_snapshot.Given as goal

-- the ledger of a counter that was just made
abbrev pub ghosts-add_counted : goal.ghosts-add_counted
ghosts-add_counted a = record { name = a.blank.name; parts = a.blank.parts }
