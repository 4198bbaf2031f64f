-- The session machine: its state, and what each event changes and answers. A target runs while a session is started. The held
-- frames are those from since up to but without played.
use Rattle.std.specs.Prelude.{ℕ, ◌+◌, ◌-◌, Bool, true, false, List, [], ◌∷◌, ◌++◌, length, replicate, take, drop, set, get_or, min, nat_lt, ◌==◌, if◌then◌else◌, Option, None, Some, is_some, sum_by, count_by}
use Rattle.std.specs.List.{list_any}
use Rattle.cov_model.specs.declared.snapshot.Snapshot.{Snapshot}
use Rattle.cov_messages.specs.declared.request.Flags.{Flags}
use Rattle.cov_messages.specs.declared.request.Command.{Command}
use Rattle.cov_messages.specs.declared.request.Command.TheVariants as command
use Rattle.cov_session.specs.declared.session.Desk.{Desk}
use Rattle.cov_messages.specs.declared.request.ErrorCode.{ErrorCode}
use Rattle.cov_messages.specs.declared.request.ErrorCode.TheVariants.{NotEnabled, NotStarted}
use Rattle.cov_session.specs.declared.session.Take.{Take}
use Rattle.cov_session.specs.declared.session.Tally.{Tally}
use Rattle.cov_session.specs.declared.session.Event.{Event}
use Rattle.cov_session.specs.declared.session.Event.TheVariants as event

pub record State : Type 0 where
  pub tape : List Snapshot
  pub pace : ℕ
  pub played : ℕ
  pub since : ℕ
  pub discarded : ℕ
  pub unwatched : ℕ
  pub desks : List Desk
  pub takes : List Take

abbrev pub state : List Snapshot → ℕ → ℕ → ℕ → ℕ → ℕ → List Desk → List Take → State
state tape pace played since discarded unwatched desks takes =
    record { tape = tape; pace = pace; played = played; since = since; discarded = discarded; unwatched = unwatched; desks = desks; takes = takes }

-- a session that is neither enabled nor started
abbrev pub idle : Desk
idle = record { enabled = false; started = None }

abbrev pub idle_desks : ℕ → List Desk
idle_desks n = replicate n idle

-- nothing played, no session enabled, no take
abbrev pub start : List Snapshot → ℕ → ℕ → State
start tape pace sessions =
    record { tape = tape; pace = pace; played = 0; since = 0; discarded = 0; unwatched = 0; desks = idle_desks sessions; takes = [] }

abbrev pub is_started : Desk → Bool
is_started d = is_some d.started

-- the target runs while a session is started
abbrev pub runs : List Desk → Bool
runs desks = list_any is_started desks

abbrev pub desk_at : List Desk → ℕ → Desk
desk_at desks n = get_or desks n idle

-- all held frames are discarded
abbrev pub dropped : State → State
dropped s =
    record { tape = s.tape; pace = s.pace; played = s.played; since = s.played; discarded = s.discarded + (s.played - s.since); unwatched = s.unwatched; desks = s.desks; takes = s.takes }

-- a session has this desk
abbrev pub with_desk : State → ℕ → Desk → State
with_desk s n d =
    record { tape = s.tape; pace = s.pace; played = s.played; since = s.since; discarded = s.discarded; unwatched = s.unwatched; desks = set s.desks n d; takes = s.takes }

-- all held frames are discarded where no session is started
abbrev pub dropped_unless : Bool → State → State
dropped_unless true s = s
dropped_unless false s = dropped s

-- a session has this desk, and all held frames are discarded where no session is started then
abbrev pub resumed : State → ℕ → Desk → State
resumed s n d = dropped_unless (runs (set s.desks n d)) (with_desk s n d)

-- the next frame is played: held where the target runs, else unwatched
abbrev pub played_one : Bool → State → State
played_one true s =
    record { tape = s.tape; pace = s.pace; played = s.played + 1; since = s.since; discarded = s.discarded; unwatched = s.unwatched; desks = s.desks; takes = s.takes }
played_one false s =
    record { tape = s.tape; pace = s.pace; played = s.played + 1; since = s.played + 1; discarded = s.discarded; unwatched = s.unwatched + 1; desks = s.desks; takes = s.takes }

abbrev pub frame_is_left : State → Bool
frame_is_left s = nat_lt s.played (length s.tape)

abbrev pub after_frame : State → State
after_frame s = if frame_is_left s then played_one (runs s.desks) s else s

-- how many are played once a take has played the next ones
abbrev pub played_by_take : State → ℕ
played_by_take s = min (length s.tape) (s.played + s.pace)

abbrev pub take_of : State → ℕ → Take
take_of s n =
    record { session = n; number = count_by (λ t. t.session == n) s.takes; since = s.since; played = played_by_take s }

abbrev pub with_take : State → ℕ → State
with_take s n =
    record { tape = s.tape; pace = s.pace; played = played_by_take s; since = played_by_take s; discarded = s.discarded; unwatched = s.unwatched; desks = s.desks; takes = s.takes ++ take_of s n ∷ [] }

-- ---- the state after a command, by the commands

abbrev pub started_after : Bool → State → ℕ → Flags → State
started_after true s n flags = dropped (with_desk s n (record { enabled = true; started = Some flags }))
started_after false s n flags = s

abbrev pub taken_after : Option Flags → State → ℕ → State
taken_after None s n = s
taken_after (Some flags) s n = with_take s n

abbrev pub stopped_after : Option Flags → State → ℕ → Bool → State
stopped_after None s n enabled = with_desk s n (record { enabled = enabled; started = None })
stopped_after (Some flags) s n enabled = resumed s n (record { enabled = enabled; started = None })

abbrev pub left_after : State → ℕ → State
left_after s n = stopped_after (desk_at s.desks n).started s n false

abbrev pub step : State → ℕ → Command → State
step s n command.Enable = with_desk s n (record { enabled = true; started = (desk_at s.desks n).started })
step s n (command.Start flags) = started_after (desk_at s.desks n).enabled s n flags
step s n command.Take = taken_after (desk_at s.desks n).started s n
step s n command.Stop = if (desk_at s.desks n).enabled then stopped_after (desk_at s.desks n).started s n true else s
step s n command.Disable = left_after s n

-- ---- and the answer: that of a take tells the flags, and the frames by their places on the tape

pub data Answered : Type 0 where
  Done : Answered
  Started : Answered
  Taken : Flags → ℕ → ℕ → Answered
  Refused : ErrorCode → Answered

abbrev pub taken_answer : Option Flags → State → Answered
taken_answer None s = Refused NotStarted
taken_answer (Some flags) s = Taken flags s.since (played_by_take s)

abbrev pub answer_to : State → ℕ → Command → Answered
answer_to s n command.Enable = Done
answer_to s n (command.Start flags) = if (desk_at s.desks n).enabled then Started else Refused NotEnabled
answer_to s n command.Take = taken_answer (desk_at s.desks n).started s
answer_to s n command.Stop = if (desk_at s.desks n).enabled then Done else Refused NotEnabled
answer_to s n command.Disable = Done

-- ---- events

abbrev pub after : State → Event → State
after s event.Frame = after_frame s
after s (event.Command n c) = step s n c
after s (event.Leave n) = left_after s n

abbrev pub answer : State → Event → Option Answered
answer s event.Frame = None
answer s (event.Command n c) = Some (answer_to s n c)
answer s (event.Leave n) = None

-- the state after all events, and the answer of each
abbrev pub after_all : State → List Event → State
after_all s [] = s
after_all s (e ∷ es) = after_all (after s e) es

abbrev pub answers : State → List Event → List (Option Answered)
answers s [] = []
answers s (e ∷ es) = answer s e ∷ answers (after s e) es

-- ---- the tally

abbrev pub size_of : Take → ℕ
size_of t = t.played - t.since

abbrev pub replied : List Take → ℕ
replied takes = sum_by size_of takes

abbrev pub held : State → ℕ
held s = s.played - s.since

abbrev pub tally_of : State → Tally
tally_of s = record { played = s.played; replied = replied s.takes; discarded = s.discarded; unwatched = s.unwatched; held = held s }

-- the frames from since up to but without played
abbrev pub frames : {A : Type 0} → List A → ℕ → ℕ → List A
frames tape since played = take (played - since) (drop since tape)
