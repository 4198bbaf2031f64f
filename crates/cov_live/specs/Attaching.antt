-- What `attach` owes: the snapshots that were taken over links, summed in the order of the sessions and of their takes.
use Rattle.std.specs.Prelude.{◌≡◌, ◌⊎◌, ◌++◌, ℕ, Bool, List, None, Result, Ok, Err, map, codes, decimal}
use Rattle.std.specs.List.{enumerate_from, flat_map, list_any}
use Rattle.cov_io.specs.Causes.{Rose}
use Rattle.cov_links.specs.Together.{NetAt, Telling}
use Rattle.cov_model.specs.declared.snapshot.Snapshot.{Snapshot}
use Rattle.cov_model.specs.File.{file}
use Rattle.cov_model.specs.Outcome.{Reading, accepted, answers}
use Rattle.cov_attach.specs.declared.fault.AttachFault.{AttachFault}
use Rattle.cov_attach.specs.declared.fault.AttachFault.TheVariants as session
use Rattle.cov_attach.specs.declared.fault.AttachFault.TheVariants.{Failed, Closed, Peer}
use Rattle.cov_attach.specs.declared.places.PlacesFault.{PlacesFault}
use Rattle.cov_attach.specs.declared.places.PlacesFault.TheVariants as places
use Rattle.cov_attach.specs.declared.places.PlacesFault.TheVariants.{Unreached, Session}
use Rattle.cov_attach.specs.Gathered.{AllTell, stop_of}
use Rattle.cov_attach.specs.Places.{Attends, Visits}
use Rattle.cov_commands.specs.declared.ended.Ended.{Ended}
use Rattle.cov_commands.specs.declared.ended.Ended.TheVariants.{LinkFault, PeerFault, NoMemory}
use Rattle.cov_commands.specs.Due.{refused_or_done}
use Rattle.cov_commands.specs.Lines.{answer_lines, is_refusal}
use Rattle.cov_commands.specs.Owed.{Owed, Duty, early}

-- ---- the snapshots

-- what a snapshot is called in a line: `session S take T`, both from 0
abbrev pub take_path : ℕ → ℕ → List ℕ
take_path number take = codes "session " ++ (decimal number ++ (codes " take " ++ decimal take))

-- those of a session, in the order of its takes, of which the first has this number
abbrev pub paths_from : ℕ → ℕ → List Snapshot → List (List ℕ)
paths_from number first snapshots = map (λ taken. take_path number taken.0) (enumerate_from first snapshots)

-- and of all sessions, in their order
abbrev pub session_paths : ℕ × List Snapshot → List (List ℕ)
session_paths numbered = paths_from numbered.0 0 numbered.1

abbrev pub take_paths : List (List Snapshot) → List (List ℕ)
take_paths taken = flat_map session_paths (enumerate_from 0 taken)

abbrev pub take_readings : List (List Snapshot) → List Reading
take_readings taken = flat_map (map Ok) taken

-- one of them doesn't fit with the earlier ones
abbrev pub has_refused : List (List Snapshot) → Bool
has_refused taken = list_any is_refusal (answers (take_readings taken))

-- The one normal file of those that fit with the earlier ones, and the lines of the others.
abbrev pub attach_due : List (List Snapshot) → Owed
attach_due taken =
    let rs = take_readings taken in
    record { out = file (accepted rs); err = answer_lines (take_paths taken) (answers rs); ended = refused_or_done (has_refused taken) }

-- ---- faults

-- how the fault of a session ends the command
abbrev pub session_end : ℕ → AttachFault → Ended
session_end number Failed = LinkFault
session_end number Closed = LinkFault
session_end number (Peer message why) = PeerFault number message
session_end number session.NoMemory = NoMemory

abbrev pub ended_by : PlacesFault → Ended
ended_by Unreached = LinkFault
ended_by (Session told) = session_end told.session told.fault
ended_by places.NoMemory = NoMemory

-- ---- what is owed

-- All sessions came to the ends of their scripts. What is due for their snapshots is owed, unless there was no memory for that.
pub record Attended {L : Type 0} (tells : Telling L) (dialled : List (List ℕ)) (takes : ℕ) (before now : NetAt L) (owed : Owed) : Type 0 where
  pub taken : List (List Snapshot)
  pub attends : Attends tells takes dialled before now (Ok taken)
  pub due : (owed ≡ attach_due taken) ⊎ (owed ≡ early NoMemory)

-- They didn't: a place wasn't reached, or this is the fault of the least session that has one.
pub record Unattended {L : Type 0} (tells : Telling L) (dialled : List (List ℕ)) (takes : ℕ) (before now : NetAt L) (owed : Owed) : Type 0 where
  pub fault : PlacesFault
  pub attends : Attends tells takes dialled before now (Err fault)
  pub is : owed ≡ early (ended_by fault)
  -- `LinkFault` comes only where the net's count rose, or that of the links that were closed.
  pub link : owed.ended ≡ LinkFault → Rose before.faults now.faults ⊎ Rose before.state.closed now.state.closed

-- Links were made, and their runs don't all come to the ends of their scripts, or they don't tell their texts.
pub record Stops {L : Type 0} (tells : Telling L) (dialled : List (List ℕ)) (takes : ℕ) (before now : NetAt L) : Type 0 where
  pub visits : (ends : List (Result (List Snapshot) AttachFault)) × Visits tells takes dialled before now ends
  pub stop : (all : List (List (List ℕ))) → AllTell tells.state visits.1.made all → stop_of takes all ≡ None → ⊥

-- The words name nothing that may be absent. What may rise is the net's count; and where the links tell their texts, a run that
-- stops before its script's end counts as that.
abbrev pub attach_duty : {L : Type 0} → Telling L → List (List ℕ) → ℕ → Duty (NetAt L)
attach_duty tells dialled takes = record {
  owes = λ before now owed. Attended tells dialled takes before now owed ⊎ Unattended tells dialled takes before now owed;
  missing = λ before. ⊥;
  risen = λ before now. Rose before.faults now.faults ⊎ Stops tells dialled takes before now;
}
