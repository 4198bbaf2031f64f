use Rattle.std.specs.Prelude.{length}
use Rattle.cov_sessions.proofs.net.replay.Given as goal

-- what the sessions share is the target of the call, and its ledgers are those of the blanks
abbrev pub ghosts-serve_links-N-Show : goal.ghosts-serve_links-N-Show
ghosts-serve_links-N-Show g a = record { tape = a.target.tape; pace = a.target.pace; sessions = length a.target.desks }

abbrev pub ghosts-serve_links-A-Ledger : goal.ghosts-serve_links-A-Ledger
ghosts-serve_links-A-Ledger g a = record { name = a.takes.name; parts = a.takes.parts }

abbrev pub ghosts-serve_links-B-Ledger : goal.ghosts-serve_links-B-Ledger
ghosts-serve_links-B-Ledger g a = record { name = a.frames.name; parts = a.frames.parts }

abbrev pub ghosts-serve_links-C-Ledger : goal.ghosts-serve_links-C-Ledger
ghosts-serve_links-C-Ledger g a = record { name = a.starts.name; parts = a.starts.parts }
