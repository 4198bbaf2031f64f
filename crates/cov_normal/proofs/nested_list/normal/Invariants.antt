use Rattle.cov_normal.proofs.nested_list.normal.Given as goal

-- the ledger of a counter that was just made
abbrev pub ghosts-nesting_of : goal.ghosts-nesting_of
ghosts-nesting_of a = record { name = a.blank.name; parts = a.blank.parts }
