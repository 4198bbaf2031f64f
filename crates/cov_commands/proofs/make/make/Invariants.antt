use Rattle.cov_commands.proofs.make.make.Given as goal

-- the ledger of a counter that was just made
abbrev pub ghosts-line_counted : goal.ghosts-line_counted
ghosts-line_counted a = record { name = a.blank.name; parts = a.blank.parts }
