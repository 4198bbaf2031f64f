use Rattle.cov_normal.proofs.flat_list.flat.Given as goal

-- the ledger of a counter that was just made
abbrev pub ghosts-listed : goal.ghosts-listed
ghosts-listed a = record { name = a.blank.name; parts = a.blank.parts }
