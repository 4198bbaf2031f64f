-- What holds of all events.
use Rattle.std.specs.Prelude.{◌≡◌, ℕ, List, [], ◌∷◌, ◌++◌, length, get_or, Option, None, Some, option_map, slice_get, filter_map}
use Rattle.cov_model.specs.declared.snapshot.Snapshot.{Snapshot}
use Rattle.cov_messages.specs.declared.request.Flags.{Flags}
use Rattle.cov_messages.specs.declared.reply.Reply.{Reply}
use Rattle.cov_messages.specs.declared.reply.Reply.TheVariants as reply
use Rattle.cov_session.specs.declared.session.Event.{Event}
use Rattle.cov_session.specs.Machine.{Answered, Done, Started, Taken, Refused, start, after_all, answers, frames}
use Rattle.cov_session.specs.View.{taken_view, replies}
use Rattle.cov_session.specs.declared.session.Fate.{Fate}
use Rattle.cov_session.specs.Fates.{fates, picked}

-- the frames in a reply that answers a take
abbrev pub block : List Snapshot → Option Answered → List (List Snapshot)
block tape None = []
block tape (Some Done) = []
block tape (Some Started) = []
block tape (Some (Taken flags since played)) = frames tape since played ∷ []
block tape (Some (Refused code)) = []

-- the frames of each answered take, in order
abbrev pub blocks : List Snapshot → List (Option Answered) → List (List Snapshot)
blocks tape [] = []
blocks tape (r ∷ rs) = block tape r ++ blocks tape rs

-- the flags of each answered take, in order
abbrev pub flags_in : Option Answered → Option Flags
flags_in None = None
flags_in (Some Done) = None
flags_in (Some Started) = None
flags_in (Some (Taken flags since played)) = Some flags
flags_in (Some (Refused code)) = None

abbrev pub flags_of_takes : List (Option Answered) → List Flags
flags_of_takes answers = filter_map flags_in answers

-- the snapshots of the replies to takes, in order
abbrev pub snapshot_in : Option Reply → Option Snapshot
snapshot_in None = None
snapshot_in (Some reply.Done) = None
snapshot_in (Some reply.Started) = None
snapshot_in (Some (reply.Taken snapshot)) = Some snapshot
snapshot_in (Some (reply.Refused code)) = None

abbrev pub taken_snapshots : List (Option Reply) → List Snapshot
taken_snapshots told = filter_map snapshot_in told

-- The k-th take that was answered has in its reply what exactly the frames with this fate come to, seen by its flags.
abbrev pub AreOfTheirFates : List Snapshot → List Fate → List (Option Answered) → List (Option Reply) → Type 0
AreOfTheirFates tape fates answers told =
    (k : ℕ) → slice_get (taken_snapshots told) k ≡ option_map (λ flags. taken_view flags (picked k fates tape)) (slice_get (flags_of_takes answers) k)

-- Each played frame has one fate; the k-th answered take has the frames from its since up to but without its played as
-- exactly those whose fate is to be in its reply, and that is what its reply was made of.
abbrev pub FatesOfFrames : Type 0
FatesOfFrames =
    (tape : List Snapshot) (sessions : ℕ) (events : List Event)
    → (length (fates (start tape 0 sessions) 0 events) ≡ (after_all (start tape 0 sessions) events).played)
    × ((k : ℕ) → picked k (fates (start tape 0 sessions) 0 events) tape ≡ get_or (blocks tape (answers (start tape 0 sessions) events)) k [])
    × AreOfTheirFates tape (fates (start tape 0 sessions) 0 events) (answers (start tape 0 sessions) events) (replies tape (answers (start tape 0 sessions) events))
