-- Worked examples.
use Rattle.std.specs.Prelude.{◌≡◌, ℕ, true, false, List, [], ◌∷◌, None, Some, Ok, Err, codes}
use Rattle.cov_model.specs.declared.snapshot.Snapshot.{Snapshot}
use Rattle.cov_model.specs.Examples.{one, branch_ranges}
use Rattle.cov_model.specs.Normal.{range}
use Rattle.cov_messages.specs.declared.request.Flags.{Flags}
use Rattle.cov_messages.specs.declared.request.Command.{Command}
use Rattle.cov_messages.specs.declared.request.Command.TheVariants as command
use Rattle.cov_messages.specs.declared.request.ErrorCode.TheVariants.{NotStarted}
use Rattle.cov_messages.specs.declared.reply.Reply.TheVariants as reply
use Rattle.cov_session.specs.declared.session.Event.{Event}
use Rattle.cov_session.specs.declared.session.Event.TheVariants as event
use Rattle.cov_session.specs.declared.session.Fate.TheVariants.{InReply, Discarded, Unwatched}
use Rattle.cov_session.specs.Machine.{Done, Started, Taken, Refused, State, start, after_all, answers, resumed, answer_to, desk_at, idle}
use Rattle.serde_json.specs.Data.{object, no_members}
use Rattle.cov_model.specs.Reading.{nowhere}
use Rattle.cov_model.specs.declared.snapshot.Field.TheVariants as field
use Rattle.cov_model.specs.declared.snapshot.ShapeFault.TheVariants.{Missing}
use Rattle.cov_messages.specs.Requests.{request_text}
use Rattle.cov_messages.specs.Replies as message
use Rattle.cov_session.specs.declared.client.Heard.TheVariants as heard
use Rattle.cov_session.specs.declared.client.PeerWhy.TheVariants.{OtherId, BadSnapshot}
use Rattle.cov_session.specs.Script.{opening, full_flags, heard_all, sent}
use Rattle.cov_session.specs.View.{reply_of}
use Rattle.cov_session.specs.Fates.{fates}

abbrev pub no_flags : Flags
no_flags = record { call_count = false; detailed = false; triggered = false }

abbrev pub all_flags : Flags
all_flags = record { call_count = true; detailed = true; triggered = false }

abbrev pub frame : Snapshot
frame = one branch_ranges

abbrev pub does : ℕ → Command → Event
does n c = event.Command n c

-- two sessions: the second start discards what was held, and the second take has nothing
abbrev pub two_sessions_events : List Event
two_sessions_events =
    does 0 command.Enable ∷ does 1 command.Enable ∷ does 0 (command.Start no_flags) ∷ event.Frame ∷ event.Frame ∷ event.Frame
    ∷ does 1 (command.Start no_flags) ∷ event.Frame ∷ event.Frame ∷ does 0 command.Take ∷ does 1 command.Take ∷ []

abbrev pub two_sessions_start : State
two_sessions_start = start (frame ∷ frame ∷ frame ∷ frame ∷ frame ∷ []) 0 2

abbrev pub TwoSessions : Type 0
TwoSessions =
    (fates two_sessions_start 0 two_sessions_events ≡ Discarded 6 ∷ Discarded 6 ∷ Discarded 6 ∷ InReply 0 ∷ InReply 0 ∷ [])
    × (answers two_sessions_start two_sessions_events
    ≡ Some Done ∷ Some Done ∷ Some Started ∷ None ∷ None ∷ None ∷ Some Started ∷ None ∷ None ∷ Some (Taken no_flags 3 5) ∷ Some (Taken no_flags 5 5) ∷ [])
    × (reply_of two_sessions_start.tape (Taken no_flags 5 5) ≡ reply.Taken [])
    × (answer_to two_sessions_start 0 command.Take ≡ Refused NotStarted)

-- what a start without flags shows, and one with both
abbrev pub Views : Type 0
Views =
    let tape = frame ∷ frame ∷ [] in
    (answers (start tape 0 1) (does 0 command.Enable ∷ does 0 (command.Start no_flags) ∷ event.Frame ∷ event.Frame ∷ does 0 command.Take ∷ [])
    ≡ Some Done ∷ Some Started ∷ None ∷ None ∷ Some (Taken no_flags 0 2) ∷ [])
    × (reply_of tape (Taken no_flags 0 2)
    ≡ reply.Taken (record { url = codes "file:///a.js"; functions = record { name = []; block = false; ranges = range 0 34 1 ∷ [] } ∷ [] } ∷ []))
    × (reply_of tape (Taken all_flags 0 2)
    ≡ reply.Taken (one (range 0 34 2 ∷ range 13 33 20 ∷ range 19 24 8 ∷ range 24 30 12 ∷ [])))

abbrev pub OneSession : Type 0
OneSession =
    fates (start (frame ∷ frame ∷ frame ∷ []) 0 1) 0
    (event.Frame ∷ does 0 command.Enable ∷ does 0 (command.Start no_flags) ∷ event.Frame ∷ does 0 command.Stop ∷ event.Frame ∷ [])
    ≡ Unwatched ∷ Discarded 4 ∷ Unwatched ∷ []

-- the target still runs once a session has left
abbrev pub StillRuns : Type 0
StillRuns =
    fates (start (frame ∷ []) 0 2) 0
    (does 0 command.Enable ∷ does 1 command.Enable ∷ does 0 (command.Start no_flags) ∷ does 1 (command.Start no_flags) ∷ event.Frame ∷ event.Leave 0 ∷ does 1 command.Take ∷ [])
    ≡ InReply 0 ∷ []

-- to resume with the desk that is there changes nothing; with one that isn't enabled discards
abbrev pub one_held : State
one_held = after_all (start (frame ∷ []) 0 1) (does 0 command.Enable ∷ does 0 (command.Start no_flags) ∷ event.Frame ∷ [])

abbrev pub Resumes : Type 0
Resumes =
    (resumed one_held 0 (desk_at one_held.desks 0) ≡ one_held)
    × ((resumed one_held 0 idle).discarded ≡ 1)
    × (answer_to (resumed one_held 0 idle) 0 command.Take ≡ Refused NotStarted)

-- an event is passed over, an answer to a take that is no snapshot is refused, and so is the reply to another request;
-- where the script is done nothing more is heard
abbrev pub empty_answer : ℕ → message.Meant
empty_answer id = message.answer id (object no_members)

abbrev pub ClientRuns : Type 0
ClientRuns =
    (heard_all (opening 1) (empty_answer 1 ∷ message.event ∷ empty_answer 2 ∷ empty_answer 3 ∷ empty_answer 4 ∷ [])
    ≡ Ok heard.Done ∷ Ok heard.Skipped ∷ Ok heard.Done ∷ Err (BadSnapshot (Missing nowhere field.Result)) ∷ [])
    × (heard_all (opening 1) (empty_answer 1 ∷ empty_answer 7 ∷ empty_answer 2 ∷ []) ≡ Ok heard.Done ∷ Err (OtherId 7) ∷ [])
    × (sent 1 (empty_answer 1 ∷ empty_answer 7 ∷ empty_answer 2 ∷ []) ≡ request_text 1 command.Enable ∷ request_text 2 (command.Start full_flags) ∷ [])
    × (heard_all (opening 0) (empty_answer 1 ∷ empty_answer 2 ∷ empty_answer 3 ∷ empty_answer 4 ∷ empty_answer 5 ∷ [])
    ≡ Ok heard.Done ∷ Ok heard.Done ∷ Ok heard.Done ∷ Ok heard.Done ∷ [])
