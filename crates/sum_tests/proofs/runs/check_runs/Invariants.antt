use Rattle.sum_tests.proofs.runs.check_runs.Given as goal

abbrev pub ghosts-list_of : goal.ghosts-list_of
ghosts-list_of g a = record { name = a.blank.name; parts = a.blank.parts }
