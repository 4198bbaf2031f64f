-- Sessions over links that were made by listening: what they come to together, and the tally of the target that they share.
use Rattle.std.specs.Prelude.{◌≡◌, ◌⊎◌, ◌+◌, ◌*◌, ◌-◌, ◌^◌, ℕ, suc, min, List, [], ◌∷◌, ◌++◌, length, Option, None, Some, Result, Ok, Err, codes, decimal}
use Rattle.cov_model.specs.declared.snapshot.Snapshot.{Snapshot}
use Rattle.cov_io.specs.Causes.{Rose}
use Rattle.cov_io.specs.declared.link.LinkFault.{LinkFault}
use Rattle.cov_io.specs.declared.link.LinkFault.TheVariants.{Failed, NoMemory}
use Rattle.cov_links.specs.Together.{NetAt, Telling, Made, Unmade, Returned, ending_with_all}
use Rattle.cov_session.specs.declared.session.Take.{Take}
use Rattle.cov_session.specs.declared.session.Tally.{Tally}
use Rattle.cov_session.specs.Machine.{State, replied, tally_of}
use Rattle.cov_serve.specs.Seats.{Seated, new_seat}
use Rattle.cov_serve.specs.Served.{IsServed, starts_of}
use Rattle.cov_serve.specs.Serving.{Ends}

-- what a session came to: its takes whose replies were sent, or why it ended before its link was closed
abbrev pub Outcome : Type 0
Outcome = Result (List Take) LinkFault

-- The session of this number was served over its link, to its own end.
pub record IsSession {L : Type 0} (tells : Telling L) (tape : List Snapshot) (pace number : ℕ) (old now : L) (outcome : Outcome) : Type 0 where
  pub left : Seated
  pub ends : Ends tape pace (tells.state old) (tells.state now) (tells.faults old) (tells.faults now) (new_seat number) left (Some outcome)

-- Each link had its session, the first of them with this number.
abbrev pub AreSessions : {L : Type 0} → Telling L → List Snapshot → ℕ → ℕ → List L → List L → List Outcome → Type 0
AreSessions tells tape pace number [] [] [] = Unit {0}
AreSessions tells tape pace number (old ∷ olds) (now ∷ nows) (outcome ∷ outcomes) =
    IsSession tells tape pace number old now outcome × AreSessions tells tape pace (suc number) olds nows outcomes
AreSessions tells tape pace number olds nows outcomes = ⊥

-- the fault of the least session that has one
abbrev pub least_fault : List Outcome → Option LinkFault
least_fault [] = None
least_fault (Ok takes ∷ outcomes) = least_fault outcomes
least_fault (Err fault ∷ outcomes) = Some fault

-- the takes of all sessions, session by session
abbrev pub takes_of : List Outcome → List Take
takes_of [] = []
takes_of (Ok takes ∷ outcomes) = takes ++ takes_of outcomes
takes_of (Err fault ∷ outcomes) = takes_of outcomes

-- ---- the tally

-- The target of sessions that had these takes: only they played its frames, and its three sums are theirs.
pub record HasServed (tape : List Snapshot) (pace sessions : ℕ) (takes : List Take) (target : State) : Type 0 where
  pub served : IsServed tape pace sessions target
  pub taken : length target.takes ≡ length takes
  pub frames : replied target.takes ≡ replied takes
  pub starts : starts_of target.takes ≡ starts_of takes

-- the tally after so many takes: each frame that was played is in a reply
abbrev pub taken_tally : List Snapshot → ℕ → ℕ → Tally
taken_tally tape pace takes =
    let played = min (length tape) (pace * takes) in
    record { played = played; replied = played; discarded = 0; unwatched = 0; held = 0 }

-- The tally is that of the target once all sessions are closed.
pub record Tells (tape : List Snapshot) (pace sessions : ℕ) (takes : List Take) (tally : Tally) : Type 0 where
  pub target : State
  pub closed : HasServed tape pace sessions takes target
  pub is : tally ≡ tally_of target
  pub numbers : tally ≡ taken_tally tape pace (length takes)
  pub frames : tally.replied ≡ replied takes

-- how a tally is written
abbrev pub tally_line : Tally → List ℕ
tally_line t =
    codes "played " ++ (decimal t.played ++ (codes " replied " ++ (decimal t.replied ++ (codes " discarded " ++ (decimal t.discarded
    ++ (codes " unwatched " ++ (decimal t.unwatched ++ (codes " held " ++ (decimal t.held ++ 10 ∷ [])))))))))

-- ---- links that are served

-- What is told of these links once they were served: the tally where each session came to its end, or the least fault. Without memory
-- to begin, none was served.
abbrev pub Plays : {L : Type 0} → Telling L → List Snapshot → ℕ → ℕ → List L → List L → Result Tally LinkFault → Type 0
Plays tells tape pace sessions made ran (Ok tally) =
    (outcomes : List Outcome) × AreSessions tells tape pace 0 made ran outcomes
    × (least_fault outcomes ≡ None) × Tells tape pace sessions (takes_of outcomes) tally
Plays tells tape pace sessions made ran (Err fault) =
    ((fault ≡ NoMemory) × (ran ≡ made))
    ⊎ ((outcomes : List Outcome) × AreSessions tells tape pace 0 made ran outcomes × (least_fault outcomes ≡ Some fault))

-- So many links were made by listening, and all were taken back, in the order of making.
pub record Visits {L : Type 0} (tells : Telling L) (sessions : ℕ) (before now : NetAt L) : Type 0 where
  -- the links as they were made, and as they were handed back
  pub made : List L
  pub ran : List L
  pub each : length made ≡ sessions
  -- the net between
  pub between : NetAt L
  pub making : Made tells [] before between made
  pub returned : Returned tells ran between now

-- All sessions were served to the end of their links. All links stand in the list of those handed back, each was closed, and none
-- has failed.
pub record Replayed {L : Type 0} (tells : Telling L) (tape : List Snapshot) (pace sessions : ℕ) (before now : NetAt L) (tally : Tally) : Type 0 where
  pub visits : Visits tells sessions before now
  pub outcomes : List Outcome
  pub served : AreSessions tells tape pace 0 visits.made visits.ran outcomes
  pub all : least_fault outcomes ≡ None
  pub told : Tells tape pace sessions (takes_of outcomes) tally
  pub back : now.state.back ≡ ending_with_all visits.ran before.state.back
  pub closed : now.state.closed ≡ min (before.state.closed + sessions) (2 ^ 64 - 1)
  pub faults : now.faults ≡ before.faults

-- Each link had its session, and this is the fault of the least one that has a fault. All links stand in the list of those handed back.
pub record Broken {L : Type 0} (tells : Telling L) (tape : List Snapshot) (pace sessions : ℕ) (before now : NetAt L) (fault : LinkFault) : Type 0 where
  pub visits : Visits tells sessions before now
  pub outcomes : List Outcome
  pub served : AreSessions tells tape pace 0 visits.made visits.ran outcomes
  pub least : least_fault outcomes ≡ Some fault
  pub back : now.state.back ≡ ending_with_all visits.ran before.state.back
  pub rose : fault ≡ Failed → Rose before.faults now.faults

-- The sessions weren't all served to their ends: a link wasn't made, a session has a fault, or there was no memory.
abbrev pub Unreplayed : {L : Type 0} → Telling L → List Snapshot → ℕ → ℕ → NetAt L → NetAt L → LinkFault → Type 0
Unreplayed tells tape pace sessions before now fault =
    Unmade sessions [] before now fault
    ⊎ (Broken tells tape pace sessions before now fault
    ⊎ ((fault ≡ NoMemory) × Visits tells sessions before now))
