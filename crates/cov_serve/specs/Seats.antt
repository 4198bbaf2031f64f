-- What a session holds beside the lock.
use Rattle.std.specs.Prelude.{◌≡◌, ℕ, ◌+◌, List, map, length}
use Rattle.cov_text.specs.Listing.{counted}
use Rattle.cov_session.specs.declared.session.Take.{Take}
use Rattle.cov_session.specs.Machine.{replied}
use Rattle.cov_serve.specs.Served.{starts_of}

-- A session, and its shares: of the number of takes, of the frames in their replies, and of their starts.
pub record Seated : Type 0 where
  pub session : ℕ
  pub takes : ℕ
  pub frames : ℕ
  pub starts : ℕ

-- The shares of a seat rose by these takes.
pub record Gains (before now : Seated) (made : List Take) : Type 0 where
  pub session : now.session ≡ before.session
  pub takes : now.takes ≡ before.takes + length made
  pub frames : now.frames ≡ before.frames + replied made
  pub starts : now.starts ≡ before.starts + starts_of made

-- the seat of a session at its start
abbrev pub new_seat : ℕ → Seated
new_seat n = record { session = n; takes = 0; frames = 0; starts = 0 }

-- the seats of so many sessions at their start
abbrev pub new_seats : ℕ → List Seated
new_seats sessions = map new_seat (counted 0 sessions)
