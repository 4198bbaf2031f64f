-- A client's run: the requests that it sends, one after the other, and what it hears of the texts that it receives.
use Rattle.std.specs.Prelude.{◌≡◌, ℕ, ◌+◌, Bool, true, false, List, [], ◌∷◌, ◌++◌, map, take, replicate, nat_lt, ◌==◌, if◌then◌else◌, Option, None, Some, is_none, slice_get, Result, Ok, Err}
use Rattle.cov_model.specs.declared.snapshot.Snapshot.{Snapshot}
use Rattle.cov_model.specs.declared.snapshot.ShapeFault.{ShapeFault}
use Rattle.cov_model.specs.Reading.{snapshot_of}
use Rattle.cov_messages.specs.declared.request.Flags.{Flags}
use Rattle.cov_messages.specs.declared.request.Command.{Command}
use Rattle.cov_messages.specs.declared.request.Command.TheVariants as command
use Rattle.cov_messages.specs.Requests.{request_text}
use Rattle.cov_messages.specs.Replies.{Meant, event, answer, refusal, other, message_of}
use Rattle.cov_session.specs.declared.client.Heard.{Heard}
use Rattle.cov_session.specs.declared.client.Heard.TheVariants.{Skipped, Done, Took}
use Rattle.cov_session.specs.declared.client.PeerWhy.{PeerWhy}
use Rattle.cov_session.specs.declared.client.PeerWhy.TheVariants.{NotReply, OtherId, ErrorReply, BadSnapshot, Chatter}
use Rattle.cov_session.specs.declared.client.HearFault.{HearFault}
use Rattle.cov_session.specs.declared.client.HearFault.TheVariants.{Peer, NoMemory}

-- how far a client has come: its number of takes, how many of its requests were answered, and how many events it has
-- received since the last request
pub record Talk : Type 0 where
  pub takes : ℕ
  pub answered : ℕ
  pub events : ℕ

abbrev pub opening : ℕ → Talk
opening takes = record { takes = takes; answered = 0; events = 0 }

-- ---- what is sent

abbrev pub full_flags : Flags
full_flags = record { call_count = true; detailed = true; triggered = false }

-- the requests in order
abbrev pub script : ℕ → List Command
script takes = command.Enable ∷ command.Start full_flags ∷ (replicate takes command.Take ++ command.Stop ∷ command.Disable ∷ [])

-- their texts, numbered from 1
abbrev pub words_from : ℕ → List Command → List (List ℕ)
words_from id [] = []
words_from id (c ∷ cs) = request_text id c ∷ words_from (id + 1) cs

abbrev pub words : ℕ → List (List ℕ)
words takes = words_from 1 (script takes)

-- the request whose reply is awaited, unless the script is done; its number; its text
abbrev pub awaited : Talk → Option Command
awaited talk = slice_get (script talk.takes) talk.answered

abbrev pub awaited_id : Talk → ℕ
awaited_id talk = talk.answered + 1

abbrev pub word : Talk → Option (List ℕ)
word talk = slice_get (words talk.takes) talk.answered

-- ---- what is heard

abbrev pub is_take : Option Command → Bool
is_take None = false
is_take (Some command.Enable) = false
is_take (Some command.Disable) = false
is_take (Some (command.Start flags)) = false
is_take (Some command.Take) = true
is_take (Some command.Stop) = false

abbrev pub taken : Result Snapshot ShapeFault → Result Heard PeerWhy
taken (Ok snapshot) = Ok (Took snapshot)
taken (Err fault) = Err (BadSnapshot fault)

-- a received text by what it is: the 1,000th event in a row is one too many
abbrev pub heard_as : Talk → Meant → Result Heard PeerWhy
heard_as talk event = if nat_lt talk.events 999 then Ok Skipped else Err Chatter
heard_as talk (answer id body) =
    if id == awaited_id talk then (if is_take (awaited talk) then taken (snapshot_of body) else Ok Done) else Err (OtherId id)
heard_as talk (refusal id code) = if id == awaited_id talk then Err (ErrorReply code) else Err (OtherId id)
heard_as talk other = Err NotReply

abbrev pub heard_of : Talk → List ℕ → Result Heard PeerWhy
heard_of talk text = heard_as talk (message_of text)

-- the awaited request is answered
abbrev pub replied : Talk → Talk
replied talk = record { takes = talk.takes; answered = talk.answered + 1; events = 0 }

abbrev pub talk_after : Talk → Heard → Talk
talk_after talk Skipped = record { takes = talk.takes; answered = talk.answered; events = talk.events + 1 }
talk_after talk Done = replied talk
talk_after talk (Took snapshot) = replied talk

-- what a call answers: the same, unless memory ran out
abbrev pub HearFails : HearFault → Result Heard PeerWhy → Type 0
HearFails NoMemory given = Unit {0}
HearFails (Peer why) given = given ≡ Err why

abbrev pub Hears : Result Heard HearFault → Result Heard PeerWhy → Type 0
Hears (Ok heard) given = given ≡ Ok heard
Hears (Err fault) given = HearFails fault given

-- ---- a whole run: it ends at the first refusal, where the script is done, or where the texts end

abbrev pub goes_on : {A : Type 0} → Talk → Result Heard PeerWhy → A → (Talk → A) → A
goes_on talk (Ok heard) ends rest = rest (talk_after talk heard)
goes_on talk (Err why) ends rest = ends

-- what is heard of each text
abbrev pub heard_all : Talk → List Meant → List (Result Heard PeerWhy)
heard_all talk [] = []
heard_all talk (m ∷ ms) =
    if is_none (awaited talk) then [] else heard_as talk m ∷ goes_on talk (heard_as talk m) [] (λ next. heard_all next ms)

abbrev pub talk_at_end : Talk → List Meant → Talk
talk_at_end talk [] = talk
talk_at_end talk (m ∷ ms) =
    if is_none (awaited talk) then talk else goes_on talk (heard_as talk m) talk (λ next. talk_at_end next ms)

-- what is heard of each received text, and the texts that are sent meanwhile
abbrev pub run_heard : ℕ → List (List ℕ) → List (Result Heard PeerWhy)
run_heard takes texts = heard_all (opening takes) (map message_of texts)

abbrev pub sent : ℕ → List Meant → List (List ℕ)
sent takes messages = take ((talk_at_end (opening takes) messages).answered + 1) (words takes)

abbrev pub run_sent : ℕ → List (List ℕ) → List (List ℕ)
run_sent takes texts = sent takes (map message_of texts)
