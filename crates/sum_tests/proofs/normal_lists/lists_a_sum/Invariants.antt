use Rattle.sum_tests.proofs.normal_lists.lists_a_sum.Given as goal

-- the ledger of a counter that was just made
abbrev pub ghosts-sum_of : goal.ghosts-sum_of
ghosts-sum_of g a = record { name = a.blank.name; parts = a.blank.parts }
