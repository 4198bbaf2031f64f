-- What a client's run over the texts of a link comes to.
use Rattle.std.specs.Prelude.{ℕ, ◌+◌, Bool, true, false, List, [], ◌∷◌, map, Option, None, Some, is_none, filter_map, Result, Ok, Err}
use Rattle.cov_model.specs.declared.snapshot.Snapshot.{Snapshot}
use Rattle.cov_messages.specs.Replies.{message_of}
use Rattle.cov_session.specs.declared.client.Heard.{Heard}
use Rattle.cov_session.specs.declared.client.Heard.TheVariants.{Skipped, Done, Took}
use Rattle.cov_session.specs.declared.client.PeerWhy.{PeerWhy}
use Rattle.cov_session.specs.Script.{opening, awaited, talk_at_end, run_heard}
use Rattle.cov_attach.specs.declared.fault.AttachFault.{AttachFault}
use Rattle.cov_attach.specs.declared.fault.AttachFault.TheVariants.{Closed, Peer}

-- the number of the text that was refused, where the first has this number, and the cause
abbrev pub refused_from : ℕ → List (Result Heard PeerWhy) → Option (ℕ × PeerWhy)
refused_from n [] = None
refused_from n (Ok heard ∷ rest) = refused_from (n + 1) rest
refused_from n (Err why ∷ rest) = Some (n, why)

-- the snapshot that a text told
abbrev pub snapshot_told : Result Heard PeerWhy → Option Snapshot
snapshot_told (Ok Skipped) = None
snapshot_told (Ok Done) = None
snapshot_told (Ok (Took snapshot)) = Some snapshot
snapshot_told (Err why) = None

abbrev pub snapshots : List (Result Heard PeerWhy) → List Snapshot
snapshots heard = filter_map snapshot_told heard

-- whether the run on these texts comes to the end of its script
abbrev pub is_finished : ℕ → List (List ℕ) → Bool
is_finished takes texts = is_none (awaited (talk_at_end (opening takes) (map message_of texts)))

-- A run ends at the first refusal, at the script's end, or where the texts end.
abbrev pub end_of : Option (ℕ × PeerWhy) → Bool → List Snapshot → Result (List Snapshot) AttachFault
end_of (Some refusal) finished taken = Err (Peer refusal.0 refusal.1)
end_of None true taken = Ok taken
end_of None false taken = Err Closed

-- the snapshots taken, in order, or why the run on these texts stops before its script's end
abbrev pub run_end : ℕ → List (List ℕ) → Result (List Snapshot) AttachFault
run_end takes texts = end_of (refused_from 0 (run_heard takes texts)) (is_finished takes texts) (snapshots (run_heard takes texts))
