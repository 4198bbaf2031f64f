-- What a target is while sessions are served: takes alone play its frames.
use Rattle.std.specs.Prelude.{◌≡◌, ℕ, ◌+◌, ◌*◌, Bool, true, ◌&&◌, List, [], ◌∷◌, length, min, nat_lt, ◌==◌, if◌then◌else◌, sum_by}
use Rattle.cov_model.specs.declared.snapshot.Snapshot.{Snapshot}
use Rattle.cov_session.specs.declared.session.Take.{Take}
use Rattle.cov_session.specs.Machine.{State}

-- where a take starts that holds a frame
abbrev pub start_of : Take → ℕ
start_of t = if nat_lt t.since t.played then t.since else 0

-- the starts of takes, added up
abbrev pub starts_of : List Take → ℕ
starts_of takes = sum_by start_of takes

-- each take has the next frames of a tape of so many, from the k-th take on
abbrev pub is_paced : ℕ → ℕ → ℕ → List Take → Bool
is_paced len pace k [] = true
is_paced len pace k (t ∷ ts) = (t.since == min len (pace * k)) && ((t.played == min len (t.since + pace)) && is_paced len pace (k + 1) ts)

-- Only takes have played, no frame was lost, and the k-th take starts where k times the pace is.
pub record IsServed (named : List Snapshot) (rate sessions : ℕ) (s : State) : Type 0 where
  pub tape : s.tape ≡ named
  pub pace : s.pace ≡ rate
  pub desks : length s.desks ≡ sessions
  pub since : s.since ≡ min (length named) (rate * length s.takes)
  pub played : s.played ≡ s.since
  pub discarded : s.discarded ≡ 0
  pub unwatched : s.unwatched ≡ 0
  pub paced : is_paced (length named) rate 0 s.takes ≡ true
