-- What a session is answered, by the desk that its own commands leave.
use Rattle.std.specs.Prelude.{◌≡◌, ℕ, ◌+◌, ◌*◌, ◌++◌, Bool, true, false, List, [], ◌∷◌, length, min, All, count_by, if◌then◌else◌, Option, None, Some, option_map}
use Rattle.cov_io.specs.Links.{LinkState}
use Rattle.cov_model.specs.declared.snapshot.Snapshot.{Snapshot}
use Rattle.cov_messages.specs.declared.request.Flags.{Flags}
use Rattle.cov_messages.specs.declared.request.Command.{Command}
use Rattle.cov_messages.specs.declared.request.Command.TheVariants as command
use Rattle.cov_messages.specs.declared.request.Body.{Body}
use Rattle.cov_messages.specs.declared.request.Body.TheVariants as body
use Rattle.cov_messages.specs.declared.request.Request.{Request}
use Rattle.cov_messages.specs.declared.request.ErrorCode.TheVariants.{NotEnabled, NotStarted}
use Rattle.cov_messages.specs.declared.reply.Reply.{Reply}
use Rattle.cov_messages.specs.declared.reply.Reply.TheVariants.{Done, Started, Taken, Refused}
use Rattle.cov_messages.specs.Requests.{request_of}
use Rattle.cov_messages.specs.Replies.{reply_text}
use Rattle.cov_session.specs.declared.session.Desk.{Desk}
use Rattle.cov_session.specs.declared.session.Take.{Take}
use Rattle.cov_session.specs.Machine.{frames, idle}
use Rattle.cov_session.specs.View.{taken_view}

-- What a request comes to by the desk of its session: a reply, or a take that is seen by these flags.
pub data Judged : Type 0 where
  told : Reply → Judged
  taken : Flags → Judged

abbrev pub take_judged : Option Flags → Judged
take_judged None = told (Refused NotStarted)
take_judged (Some flags) = taken flags

abbrev pub judged : Desk → Command → Judged
judged d command.Enable = told Done
judged d (command.Start flags) = told (if d.enabled then Started else Refused NotEnabled)
judged d command.Take = take_judged d.started
judged d command.Stop = told (if d.enabled then Done else Refused NotEnabled)
judged d command.Disable = told Done

abbrev pub judged_body : Desk → Body → Judged
judged_body d (body.Command c) = judged d c
judged_body d (body.Refused code) = told (Refused code)

-- the desk after it
abbrev pub desk_after : Desk → Command → Desk
desk_after d command.Enable = record { enabled = true; started = d.started }
desk_after d (command.Start flags) = if d.enabled then record { enabled = true; started = Some flags } else d
desk_after d command.Take = d
desk_after d command.Stop = if d.enabled then record { enabled = true; started = None } else d
desk_after d command.Disable = record { enabled = false; started = None }

abbrev pub desk_after_body : Desk → Body → Desk
desk_after_body d (body.Command c) = desk_after d c
desk_after_body d (body.Refused code) = d

-- A take of this session, which has some block of a tape of so many frames.
pub record IsBlock (len pace by : ℕ) (t : Take) : Type 0 where
  pub session : t.session ≡ by
  pub since : (k : ℕ) × (t.since ≡ min len (pace * k))
  pub played : t.played ≡ min len (t.since + pace)

-- what a take is answered
abbrev pub take_reply : List Snapshot → Flags → Take → Reply
take_reply tape flags t = Taken (taken_view flags (frames tape t.since t.played))

-- A request is answered: by the desk alone, or with the frames of a take.
abbrev pub IsAnswered : List Snapshot → ℕ → ℕ → Judged → Reply → Option Take → Type 0
IsAnswered tape pace session (told r) reply take = (reply ≡ r) × (take ≡ None)
IsAnswered tape pace session (taken flags) reply None = ⊥
IsAnswered tape pace session (taken flags) reply (Some t) = (reply ≡ take_reply tape flags t) × IsBlock (length tape) pace session t

-- ---- a whole session

-- A request as it is judged, with its number.
pub record Asked : Type 0 where
  pub id : Option ℕ
  pub judged : Judged

abbrev pub asked_by : Desk → Request → Asked
asked_by d request = record { id = request.id; judged = judged_body d request.body }

-- what each text that a session receives comes to, by the desk that the ones before it leave
abbrev pub asked : Desk → List (List ℕ) → List Asked
asked d [] = []
asked d (text ∷ texts) = asked_by d (request_of text) ∷ asked (desk_after_body d (request_of text).body) texts

abbrev pub is_taken : Judged → Bool
is_taken (told r) = false
is_taken (taken flags) = true

abbrev pub takes_in : List Asked → ℕ
takes_in asked = count_by (λ a. is_taken a.judged) asked

-- the text that is sent for one of them, and then the others, where these are the takes
abbrev pub reply_with : List Snapshot → Option ℕ → Judged → List Take → (List Take → List (List ℕ)) → List (List ℕ)
reply_with tape id (told r) takes others = reply_text id r ∷ others takes
reply_with tape id (taken flags) [] others = []
reply_with tape id (taken flags) (t ∷ ts) others = reply_text id (take_reply tape flags t) ∷ others ts

-- the texts that are sent for them, in order, where these are the takes
abbrev pub replies : List Snapshot → List Asked → List Take → List (List ℕ)
replies tape [] takes = []
replies tape (a ∷ rest) takes = reply_with tape a.id a.judged takes (replies tape rest)

-- What a session did over a link: the texts that it received, those that it sent, and its takes.
pub record Went (tape : List Snapshot) (pace session : ℕ) (before now : LinkState) (takes : List Take) : Type 0 where
  pub received : List (List ℕ)
  pub coming : before.coming ≡ option_map (λ rest. received ++ rest) now.coming
  pub sent : now.sent ≡ option_map (λ texts. texts ++ replies tape (asked idle received) takes) before.sent
  pub counted : length takes ≡ takes_in (asked idle received)
  pub blocks : All (IsBlock (length tape) pace session) takes
