use Rattle.sum_tests.proofs.runs.check_round.Given as goal

abbrev pub ghosts-sum_of : goal.ghosts-sum_of
ghosts-sum_of g a = record { name = a.blank.name; parts = a.blank.parts }

abbrev pub ghosts-list_of : goal.ghosts-list_of
ghosts-list_of g a = record { name = a.blank.name; parts = a.blank.parts }
