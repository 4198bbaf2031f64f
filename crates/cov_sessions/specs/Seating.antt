-- Sessions beside their links and seats.
use Rattle.std.specs.Prelude.{◌≡◌, ◌+◌, ℕ, List, map, length, sum_by, Option, None, Some, Err}
use Rattle.cov_io.specs.declared.link.LinkFault.TheVariants.{NoMemory}
use Rattle.cov_model.specs.declared.snapshot.Snapshot.{Snapshot}
use Rattle.cov_session.specs.declared.session.Tally.{Tally}
use Rattle.cov_session.specs.Machine.{State, replied, tally_of}
use Rattle.cov_serve.specs.declared.many.Session.{Session}
use Rattle.cov_serve.specs.Seats.{Seated}
use Rattle.cov_serve.specs.Served.{IsServed, starts_of}
use Rattle.cov_sessions.specs.Sessions.{Outcome}

-- what a session came to that was served; one that wasn't had no memory
abbrev pub outcome_of : Option Outcome → Outcome
outcome_of None = Err NoMemory
outcome_of (Some outcome) = outcome

abbrev pub links_in : {N A B C L : Type 0} → List (Session N A B C L) → List L
links_in sessions = map (λ s. s.link) sessions

abbrev pub seats_in : {N A B C L : Type 0} → List (Session N A B C L) → List Seated
seats_in sessions = map (λ s. s.seat) sessions

abbrev pub outcomes_in : {N A B C L : Type 0} → List (Session N A B C L) → List Outcome
outcomes_in sessions = map (λ s. outcome_of s.takes) sessions

-- The tally is that of the target that these seats shared.
pub record SeatsTell (tape : List Snapshot) (pace sessions : ℕ) (seats : List Seated) (tally : Tally) : Type 0 where
  pub target : State
  pub served : IsServed tape pace sessions target
  pub takes : length target.takes ≡ sum_by (λ s. s.takes) seats
  pub frames : replied target.takes ≡ sum_by (λ s. s.frames) seats
  pub starts : starts_of target.takes ≡ sum_by (λ s. s.starts) seats
  pub all : replied target.takes + target.discarded + target.unwatched ≡ target.since
  pub is : tally ≡ tally_of target
