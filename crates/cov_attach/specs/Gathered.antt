-- What many sessions come to together.
use Rattle.std.specs.Prelude.{◌≡◌, ℕ, ◌+◌, List, [], ◌∷◌, map, Option, None, Some, filter_map, Result, Ok, Err}
use Rattle.std.specs.Result.{result_ok}
use Rattle.cov_model.specs.declared.snapshot.Snapshot.{Snapshot}
use Rattle.cov_io.specs.Causes.{HasCause}
use Rattle.cov_io.specs.Links.{LinkState}
use Rattle.cov_attach.specs.declared.fault.AttachFault.{AttachFault}
use Rattle.cov_attach.specs.declared.fault.AttachFault.TheVariants.{Failed, Closed, Peer, NoMemory}
use Rattle.cov_attach.specs.declared.fault.AttachAllFault.{AttachAllFault}
use Rattle.cov_attach.specs.Runs.{run_end}
use Rattle.cov_attach.specs.Sessions.{IsSession}

-- A session was run over each link, and has its own answer.
abbrev pub AreSessions : {L : Type 0} → (L → LinkState) → (L → ℕ) → ℕ → List L → List L → List (Result (List Snapshot) AttachFault) → Type 0
AreSessions state faults takes [] [] [] = Unit {0}
AreSessions state faults takes (old ∷ olds) (new ∷ news) (answer ∷ answers) =
    IsSession takes (state old) (state new) answer × HasCause Failed (faults old) (faults new) answer
    × AreSessions state faults takes olds news answers
AreSessions state faults takes olds news answers = ⊥

-- the fault of the least session that has one, where the first has this number
abbrev pub least_fault : {A : Type 0} → ℕ → List (Result A AttachFault) → Option AttachAllFault
least_fault n [] = None
least_fault n (Ok taken ∷ rest) = least_fault (n + 1) rest
least_fault n (Err fault ∷ rest) = Some (record { session = n; fault = fault })

-- A fault is the least one. Want of memory is tied to none.
abbrev pub FaultTold : AttachAllFault → AttachFault → Option AttachAllFault → Type 0
FaultTold told NoMemory least = Unit {0}
FaultTold told Failed least = least ≡ Some told
FaultTold told Closed least = least ≡ Some told
FaultTold told (Peer message why) least = least ≡ Some told

-- What is told of all answers: what each session took, or the least fault. `items` tells the list of what is handed out.
abbrev pub Gathers : {V A : Type 0} → (V → List A) → ℕ → List (Result A AttachFault) → Result V AttachAllFault → Type 0
Gathers items first answers (Ok taken) = (least_fault first answers ≡ None) × (items taken ≡ filter_map result_ok answers)
Gathers items first answers (Err told) = FaultTold told told.fault (least_fault first answers)

-- Each link has had its session, to its own end, and all is told together.
pub record AreRun {L V : Type 0} (state : L → LinkState) (faults : L → ℕ) (items : V → List (List Snapshot)) (takes first : ℕ) (olds news : List L) (result : Result V AttachAllFault) : Type 0 where
  pub answers : List (Result (List Snapshot) AttachFault)
  pub sessions : AreSessions state faults takes olds news answers
  pub told : Gathers items first answers result

-- ---- links that tell their texts

-- these texts are to come over each link
abbrev pub AllTell : {L : Type 0} → (L → LinkState) → List L → List (List (List ℕ)) → Type 0
AllTell state [] [] = Unit {0}
AllTell state (link ∷ links) (texts ∷ all) = ((state link).coming ≡ Some texts) × AllTell state links all
AllTell state links all = ⊥

-- what the run on each link's texts comes to
abbrev pub run_ends : ℕ → List (List (List ℕ)) → List (Result (List Snapshot) AttachFault)
run_ends takes all = map (run_end takes) all

-- The stop of runs over many links: the least session whose run doesn't come to its script's end, and why.
abbrev pub stop_of : ℕ → List (List (List ℕ)) → Option AttachAllFault
stop_of takes all = least_fault 0 (run_ends takes all)

-- A fault is the stop of the runs, unless a link failed or memory ran out.
abbrev pub StopTold : AttachAllFault → AttachFault → Option AttachAllFault → Type 0
StopTold told Failed stop = Unit {0}
StopTold told NoMemory stop = Unit {0}
StopTold told Closed stop = stop ≡ Some told
StopTold told (Peer message why) stop = stop ≡ Some told

-- What is told where these texts were to come over the links: the snapshots of each run, or the stop.
abbrev pub TellsRuns : {V : Type 0} → (V → List (List Snapshot)) → ℕ → List (List (List ℕ)) → Result V AttachAllFault → Type 0
TellsRuns items takes all (Ok taken) = (stop_of takes all ≡ None) × (items taken ≡ filter_map result_ok (run_ends takes all))
TellsRuns items takes all (Err told) = StopTold told told.fault (stop_of takes all)
