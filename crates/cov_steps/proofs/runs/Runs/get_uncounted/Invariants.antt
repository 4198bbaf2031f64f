use Rattle.cov_steps.proofs.runs.Runs.get_uncounted.Given as goal

abbrev pub ghosts-get_with : goal.ghosts-get_with
ghosts-get_with a = record { name = a.blank.name; parts = a.blank.parts }
