use Rattle.cov_session.proofs.merging.merged.Given as goal

-- the ledger of a counter that was just made
abbrev pub ghosts-merged_by : goal.ghosts-merged_by
ghosts-merged_by a = record { name = a.blank.name; parts = a.blank.parts }
