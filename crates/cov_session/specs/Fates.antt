-- What becomes of each frame.
use Rattle.std.specs.Prelude.{ℕ, suc, ◌<◌, nat_lt, Bool, true, false, ◌&&◌, ◌||◌, not, List, [], ◌∷◌, ◌++◌, length, replicate, if◌then◌else◌, is_some, ◌==◌}
use Rattle.cov_messages.specs.declared.request.Command.TheVariants as command
use Rattle.cov_session.specs.declared.session.Event.{Event}
use Rattle.cov_session.specs.declared.session.Event.TheVariants as event
use Rattle.cov_session.specs.declared.session.Fate.{Fate}
use Rattle.cov_session.specs.declared.session.Fate.TheVariants.{InReply, Discarded, Unwatched, Held}
use Rattle.cov_session.specs.Machine.{State, runs, desk_at, after, frame_is_left, held}

-- an accepted take
abbrev pub is_take : State → Event → Bool
is_take s event.Frame = false
is_take s (event.Leave n) = false
is_take s (event.Command n command.Enable) = false
is_take s (event.Command n (command.Start flags)) = false
is_take s (event.Command n command.Take) = is_some (desk_at s.desks n).started
is_take s (event.Command n command.Stop) = false
is_take s (event.Command n command.Disable) = false

-- an accepted start
abbrev pub is_start : State → Event → Bool
is_start s event.Frame = false
is_start s (event.Leave n) = false
is_start s (event.Command n command.Enable) = false
is_start s (event.Command n (command.Start flags)) = (desk_at s.desks n).enabled
is_start s (event.Command n command.Take) = false
is_start s (event.Command n command.Stop) = false
is_start s (event.Command n command.Disable) = false

-- a stop, a disable or a leave
abbrev pub is_end : Event → Bool
is_end event.Frame = false
is_end (event.Leave n) = true
is_end (event.Command n command.Enable) = false
is_end (event.Command n (command.Start flags)) = false
is_end (event.Command n command.Take) = false
is_end (event.Command n command.Stop) = true
is_end (event.Command n command.Disable) = true

-- The fate of a frame that is held, by the first event that is an accepted take, an accepted start, or an end after which
-- no session is started. `place` is that of the next event.
abbrev pub decided : State → ℕ → List Event → Fate
decided s place [] = Held
decided s place (e ∷ es) =
    if is_take s e then InReply (length s.takes)
    else if is_start s e || (is_end e && not (runs (after s e).desks)) then Discarded place
    else decided (after s e) (suc place) es

-- the fate of the frame that is played by an event, before these others
abbrev pub fate : State → ℕ → List Event → Fate
fate s place es = if runs s.desks then decided (after s event.Frame) place es else Unwatched

abbrev pub is_frame : State → Event → Bool
is_frame s event.Frame = frame_is_left s
is_frame s (event.Command n c) = false
is_frame s (event.Leave n) = false

-- the fates of all frames that are played
abbrev pub fates : State → ℕ → List Event → List Fate
fates s place [] = []
fates s place (e ∷ es) =
    if is_frame s e then fate s (suc place) es ∷ fates (after s e) (suc place) es else fates (after s e) (suc place) es

-- the frames in the reply of the k-th take
abbrev pub is_in_reply : ℕ → Fate → Bool
is_in_reply k (InReply j) = j == k
is_in_reply k (Discarded p) = false
is_in_reply k Unwatched = false
is_in_reply k Held = false

abbrev pub picked : {A : Type 0} → ℕ → List Fate → List A → List A
picked k [] xs = []
picked k (f ∷ fs) [] = []
picked k (f ∷ fs) (x ∷ xs) = if is_in_reply k f then x ∷ picked k fs xs else picked k fs xs

-- the fates of the frames that are held, and of those to come
abbrev pub all_fates : State → ℕ → List Event → List Fate
all_fates s place es = replicate (held s) (decided s place es) ++ fates s place es

-- what is settled where these numbers were and are: unwatched, takes, discarded
abbrev pub given : Bool → Bool → Bool → ℕ → ℕ → ℕ → List Fate
given missed took lost held takes place =
    if missed then Unwatched ∷ [] else if took then replicate held (InReply takes) else if lost then replicate held (Discarded place) else []

-- the fates that are settled by an event, by what rose
abbrev pub settled_by : State → State → ℕ → List Fate
settled_by s t place =
    given (nat_lt s.unwatched t.unwatched) (nat_lt (length s.takes) (length t.takes)) (nat_lt s.discarded t.discarded) (held s) (length s.takes) place

-- the session of the event is one of these
abbrev pub IsWithin : ℕ → Event → Type 0
IsWithin sessions event.Frame = Unit {0}
IsWithin sessions (event.Command n c) = n < sessions
IsWithin sessions (event.Leave n) = n < sessions
