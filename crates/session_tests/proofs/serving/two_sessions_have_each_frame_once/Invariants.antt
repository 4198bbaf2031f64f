use Rattle.std.specs.Prelude.{length}
use Rattle.session_tests.proofs.serving.two_sessions_have_each_frame_once.Given as goal

abbrev pub ghosts-serve_two-N-Show : goal.ghosts-serve_two-N-Show
ghosts-serve_two-N-Show g a = record { tape = a.target.tape; pace = a.target.pace; sessions = length a.target.desks }

abbrev pub ghosts-serve_two-A-Ledger : goal.ghosts-serve_two-A-Ledger
ghosts-serve_two-A-Ledger g a = record { name = a.takes.name; parts = a.takes.parts }

abbrev pub ghosts-serve_two-B-Ledger : goal.ghosts-serve_two-B-Ledger
ghosts-serve_two-B-Ledger g a = record { name = a.frames.name; parts = a.frames.parts }

abbrev pub ghosts-serve_two-C-Ledger : goal.ghosts-serve_two-C-Ledger
ghosts-serve_two-C-Ledger g a = record { name = a.starts.name; parts = a.starts.parts }
