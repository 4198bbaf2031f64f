-- What comes of live sessions at many places: each place is dialled, each link has its session, and each is handed back.
use Rattle.std.specs.Prelude.{◌≡◌, ◌⊎◌, ℕ, List, length, Result, Ok, Err}
use Rattle.cov_model.specs.declared.snapshot.Snapshot.{Snapshot}
use Rattle.cov_io.specs.Causes.{Rose}
use Rattle.cov_io.specs.declared.link.LinkFault.TheVariants as link
use Rattle.cov_links.specs.Together.{NetAt, Telling, Made, Unmade, Returned, ending_with_all}
use Rattle.cov_attach.specs.declared.fault.AttachFault.{AttachFault}
use Rattle.cov_attach.specs.declared.fault.AttachFault.TheVariants.{Failed, Closed, Peer, NoMemory}
use Rattle.cov_attach.specs.declared.fault.AttachAllFault.{AttachAllFault}
use Rattle.cov_attach.specs.declared.places.PlacesFault.{PlacesFault}
use Rattle.cov_attach.specs.declared.places.PlacesFault.TheVariants as places
use Rattle.cov_attach.specs.Gathered.{AllTell, AreSessions, Gathers, TellsRuns}

-- All places were dialled, in order. Each link had its session, to its own end, with its own answer. Then all links were taken back.
pub record Visits {L : Type 0} (tells : Telling L) (takes : ℕ) (dialled : List (List ℕ)) (before now : NetAt L) (answers : List (Result (List Snapshot) AttachFault)) : Type 0 where
  -- the links as they were made, and as they were handed back
  pub made : List L
  pub ran : List L
  pub each : length made ≡ length dialled
  -- the net between
  pub between : NetAt L
  pub making : Made tells dialled before between made
  pub sessions : AreSessions tells.state tells.faults takes made ran answers
  pub returned : Returned tells ran between now

-- What the counts of the net say: no link failed where all sessions came to their end, and each fault of a link is counted.
abbrev pub CountsFault : {L : Type 0} → NetAt L → NetAt L → AttachFault → Type 0
CountsFault before now Failed = Rose before.faults now.faults
CountsFault before now Closed = Rose before.state.closed now.state.closed
CountsFault before now (Peer message why) = Unit {0}
CountsFault before now NoMemory = Unit {0}

abbrev pub Counts : {L A : Type 0} → NetAt L → NetAt L → Result A AttachAllFault → Type 0
Counts before now (Ok taken) = now.faults ≡ before.faults
Counts before now (Err told) = CountsFault before now told.fault

-- All is told together: what each session took, or the fault of the least session that has one. All links stand in the list of
-- those handed back, in the order of making.
pub record Tells {L : Type 0} (tells : Telling L) (takes : ℕ) (dialled : List (List ℕ)) (before now : NetAt L) (told : Result (List (List Snapshot)) AttachAllFault) : Type 0 where
  pub answers : List (Result (List Snapshot) AttachFault)
  pub visits : Visits tells takes dialled before now answers
  pub gathered : Gathers (λ (taken : List (List Snapshot)). taken) 0 answers told
  pub back : now.state.back ≡ ending_with_all visits.ran before.state.back
  pub counts : Counts before now told
  -- Where the links tell the texts to come, it is what the run on the texts of each comes to, or the least stop.
  pub runs : (all : List (List (List ℕ))) → AllTell tells.state visits.made all → TellsRuns (λ (taken : List (List Snapshot)). taken) takes all told

abbrev pub Attends : {L : Type 0} → Telling L → ℕ → List (List ℕ) → NetAt L → NetAt L → Result (List (List Snapshot)) PlacesFault → Type 0
Attends tells takes dialled before now (Ok taken) = Tells tells takes dialled before now (Ok taken)
Attends tells takes dialled before now (Err (places.Session told)) = Tells tells takes dialled before now (Err told)
Attends tells takes dialled before now (Err places.Unreached) = Unmade (length dialled) dialled before now link.Failed
Attends tells takes dialled before now (Err places.NoMemory) =
    Unmade (length dialled) dialled before now link.NoMemory
    ⊎ ((answers : List (Result (List Snapshot) AttachFault)) × Visits tells takes dialled before now answers)
