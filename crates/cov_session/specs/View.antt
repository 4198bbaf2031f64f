-- What a session sees of a merged snapshot, by its flags.
use Rattle.std.specs.Prelude.{ℕ, false, List, [], ◌∷◌, map, take, min, if◌then◌else◌, Option, option_map}
use Rattle.cov_model.specs.declared.report.Range.{Range}
use Rattle.cov_model.specs.declared.report.FunctionReport.{FunctionReport}
use Rattle.cov_model.specs.declared.snapshot.Snapshot.{Snapshot}
use Rattle.cov_model.specs.declared.snapshot.Entry.{Entry}
use Rattle.cov_model.specs.Nesting.{inner_count}
use Rattle.cov_model.specs.Normal.{range}
use Rattle.cov_model.specs.Forms.{normal_list}
use Rattle.cov_model.specs.File.{scripts}
use Rattle.cov_messages.specs.declared.request.Flags.{Flags}
use Rattle.cov_messages.specs.declared.reply.Reply.{Reply}
use Rattle.cov_messages.specs.declared.reply.Reply.TheVariants as reply
use Rattle.cov_session.specs.Machine.{Answered, Done, Started, Taken, Refused, frames}

-- a range whose count is cut to at most 1
abbrev pub at_most_one : Range → Range
at_most_one r = range r.start r.end (min r.count 1)

-- the normal list of the root and the counts, cut to at most 1
abbrev pub cut : List Range → List Range
cut [] = []
cut (root ∷ rest) = normal_list root.start root.end (min root.count 1) (λ o. min (inner_count (root ∷ rest) o) 1)

abbrev pub counted : Flags → List Range → List Range
counted flags ranges = if flags.call_count then ranges else cut ranges

-- the root alone
abbrev pub root_alone : List ℕ → List Range → FunctionReport
root_alone name ranges = record { name = name; block = false; ranges = take 1 ranges }

abbrev pub seen : Flags → FunctionReport → FunctionReport
seen flags f =
    if flags.detailed then record { name = f.name; block = f.block; ranges = counted flags f.ranges } else root_alone f.name (counted flags f.ranges)

abbrev pub seen_entry : Flags → Entry → Entry
seen_entry flags entry = record { url = entry.url; functions = map (seen flags) entry.functions }

abbrev pub view : Flags → Snapshot → Snapshot
view flags s = map (seen_entry flags) s

-- the snapshot of a take: what the frames from since up to but without played come to, as the flags let see it
abbrev pub taken_view : Flags → List Snapshot → Snapshot
taken_view flags frames = view flags (scripts frames)

-- the reply to a command
abbrev pub reply_of : List Snapshot → Answered → Reply
reply_of tape Done = reply.Done
reply_of tape Started = reply.Started
reply_of tape (Taken flags since played) = reply.Taken (taken_view flags (frames tape since played))
reply_of tape (Refused code) = reply.Refused code

-- the replies to events, one place each
abbrev pub replies : List Snapshot → List (Option Answered) → List (Option Reply)
replies tape answers = map (option_map (reply_of tape)) answers
