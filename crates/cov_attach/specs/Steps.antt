-- The steps of a session: it asks, and it hears one text.
use Rattle.std.specs.Prelude.{◌≡◌, ℕ, ◌+◌, ◌*◌, ◌^◌, ◌<◌, ◌≤◌, ◌⊎◌, Bool, true, false, List, [], ◌∷◌, ◌++◌, Option, None, Some, is_some, Result, Ok, Err, IfOk}
use Rattle.cov_model.specs.declared.snapshot.Snapshot.{Snapshot}
use Rattle.cov_io.specs.Told.{WhereTold}
use Rattle.cov_io.specs.Lists.{beginning_with, ending_with}
use Rattle.cov_io.specs.Links.{LinkState}
use Rattle.cov_session.specs.declared.client.Heard.{Heard}
use Rattle.cov_session.specs.declared.client.Heard.TheVariants.{Skipped, Done, Took}
use Rattle.cov_session.specs.Script.{word, heard_of, talk_after}
use Rattle.cov_attach.specs.declared.fault.AttachFault.{AttachFault}
use Rattle.cov_attach.specs.declared.fault.AttachFault.TheVariants.{Failed, Closed, Peer, NoMemory}
use Rattle.cov_attach.specs.declared.session.Session.{Session}
use Rattle.cov_attach.specs.Sessions.{closed_by}

-- No more than 999 events come before a reply.
pub record IsCounted (s : Session) : Type 0 where
  pub takes : s.client.takes < 2 ^ 32
  pub received : s.received ≤ 1000 * s.client.answered + s.client.events
  pub events : s.client.events ≤ 999

-- ---- asking

abbrev pub with_word : Option (List ℕ) → Option (List (List ℕ)) → Option (List (List ℕ))
with_word None told = told
with_word (Some text) told = ending_with text told

-- what was sent: the request, unless the link failed or memory ran out first
abbrev pub Sent : {A : Type 0} → Option (List ℕ) → Option (List (List ℕ)) → Option (List (List ℕ)) → Result A AttachFault → Type 0
Sent next before now (Ok more) = now ≡ with_word next before
Sent next before now (Err Failed) = (now ≡ before) ⊎ (now ≡ with_word next before)
Sent next before now (Err NoMemory) = now ≡ before
Sent next before now (Err Closed) = ⊥
Sent next before now (Err (Peer message why)) = ⊥

pub record Asks (s : Session) (before now : LinkState) (result : Result Bool AttachFault) : Type 0 where
  pub more : IfOk result (λ more. more ≡ is_some (word s.client))
  pub sent : Sent (word s.client) before.sent now.sent result
  pub coming : now.coming ≡ before.coming
  pub closed : now.closed ≡ before.closed

-- ---- hearing

abbrev pub is_reply : Heard → Bool
is_reply Skipped = false
is_reply Done = true
is_reply (Took snapshot) = true

abbrev pub with_told : List Snapshot → Heard → List Snapshot
with_told taken Skipped = taken
with_told taken Done = taken
with_told taken (Took snapshot) = taken ++ snapshot ∷ []

abbrev pub after : Session → Heard → Session
after s heard = record { client = talk_after s.client heard; taken = with_told s.taken heard; received = s.received + 1 }

-- A text was heard.
pub record HearsOne (s now : Session) (before left : Option (List (List ℕ))) (reply : Bool) : Type 0 where
  pub text : List ℕ
  pub heard : Heard
  pub received : before ≡ beginning_with text left
  pub heard_is : heard_of s.client text ≡ Ok heard
  pub state : now ≡ after s heard
  pub replied : reply ≡ is_reply heard

abbrev pub Hears : Session → Session → Option (List (List ℕ)) → Option (List (List ℕ)) → Result Bool AttachFault → Type 0
Hears s now before left (Ok reply) = HearsOne s now before left reply
Hears s now before left (Err Failed) = left ≡ before
Hears s now before left (Err NoMemory) = (left ≡ before) ⊎ ((text : List ℕ) × (before ≡ beginning_with text left))
Hears s now before left (Err Closed) = WhereTold before (λ texts. texts ≡ []) × (left ≡ before)
Hears s now before left (Err (Peer message why)) =
    (text : List ℕ) × (before ≡ beginning_with text left) × (heard_of s.client text ≡ Err why) × (message ≡ s.received)

pub record HearsNext (s now : Session) (before left : LinkState) (result : Result Bool AttachFault) : Type 0 where
  pub coming : Hears s now before.coming left.coming result
  pub sent : left.sent ≡ before.sent
  pub closed : left.closed ≡ closed_by before.closed result
