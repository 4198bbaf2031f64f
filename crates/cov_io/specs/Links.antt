-- What a link and a net tell, and what their calls do to it.
use Rattle.std.specs.Prelude.{◌≡◌, ◌+◌, ◌-◌, ◌^◌, ℕ, min, Bool, true, false, if◌then◌else◌, List, [], Option, Some, string_bytes, Result, Ok, Err, OnOk, OnErr}
use Rattle.cov_io.specs.Told.{WhereTold}
use Rattle.cov_io.specs.Lists.{ending_with, beginning_with, Adds, Takes}
use Rattle.cov_io.specs.declared.link.Got.{Got}
use Rattle.cov_io.specs.declared.link.Got.TheVariants.{Text, Closed}
use Rattle.cov_io.specs.declared.link.LinkFault.{LinkFault}
use Rattle.cov_io.specs.declared.link.LinkFault.TheVariants.{Failed, NoMemory}

-- A link: the texts sent and the texts still to come, where they are told, and whether `recv` has answered `Closed`.
pub record LinkState : Type 0 where
  pub sent : Option (List (List ℕ))
  pub coming : Option (List (List ℕ))
  pub closed : Bool

-- A text is sent.
pub record Sends (text : List ℕ) (before now : LinkState) {T : Type 0} (result : Result T LinkFault) : Type 0 where
  pub sent : Adds Failed NoMemory text before.sent now.sent result
  pub coming : now.coming ≡ before.coming
  pub closed : now.closed ≡ before.closed

-- the texts to come after a call that answered the first of them, or that there is none
abbrev pub TakesText : Option (List (List ℕ)) → Option (List (List ℕ)) → Result Got LinkFault → Type 0
TakesText before now (Ok (Text text)) = before ≡ beginning_with (string_bytes text) now
TakesText before now (Ok Closed) = WhereTold before (λ texts. texts ≡ []) × (now ≡ before)
TakesText before now (Err fault) = now ≡ before

abbrev pub closed_after : Bool → Result Got LinkFault → Bool
closed_after before (Ok (Text text)) = before
closed_after before (Ok Closed) = true
closed_after before (Err fault) = before

-- A text is received, or that the link is closed.
pub record Receives (before now : LinkState) (result : Result Got LinkFault) : Type 0 where
  pub coming : TakesText before.coming now.coming result
  pub sent : now.sent ≡ before.sent
  pub closed : now.closed ≡ closed_after before.closed result

-- A link that was just made has not failed, isn't closed, and has sent nothing where it tells its texts.
pub record IsNew (state : LinkState) (faults : ℕ) : Type 0 where
  pub unsent : WhereTold state.sent (λ texts. texts ≡ [])
  pub unclosed : state.closed ≡ false
  pub sound : faults ≡ 0

-- A net: the links to come, the places dialled and the links handed back, where they are told, the port of its last `listen` that
-- answered Ok, and how many links that were handed back were closed.
pub record NetState (L : Type 0) : Type 0 where
  pub coming : Option (List L)
  pub dialled : Option (List (List ℕ))
  pub back : Option (List L)
  pub port : Option ℕ
  pub closed : ℕ

abbrev pub port_after : Option ℕ → Result ℕ LinkFault → Option ℕ
port_after before (Ok port) = Some port
port_after before (Err fault) = before

-- A port is listened on.
pub record Listens {L : Type 0} (before now : NetState L) (result : Result ℕ LinkFault) : Type 0 where
  pub port : now.port ≡ port_after before.port result
  pub coming : now.coming ≡ before.coming
  pub dialled : now.dialled ≡ before.dialled
  pub back : now.back ≡ before.back
  pub closed : now.closed ≡ before.closed

-- A link is made. Of the links to come it was the first.
pub record Makes {L : Type 0} (before now : NetState L) (result : Result L LinkFault) : Type 0 where
  pub coming : Takes before.coming now.coming result
  pub back : now.back ≡ before.back
  pub port : now.port ≡ before.port
  pub closed : now.closed ≡ before.closed

-- The places dialled after a call. Want of memory comes before a place is dialled.
abbrev pub dialled_after : {T : Type 0} → List ℕ → Option (List (List ℕ)) → Result T LinkFault → Option (List (List ℕ))
dialled_after place before (Ok link) = ending_with place before
dialled_after place before (Err Failed) = ending_with place before
dialled_after place before (Err NoMemory) = before

-- a count that one case raises, up to the greatest `u64`
abbrev pub counted_if : Bool → ℕ → ℕ
counted_if case count = if case then min (count + 1) (2 ^ 64 - 1) else count

-- A link is taken back, last in the list. Without memory it is dropped, and counted all the same.
pub record TakesBack {L E : Type 0} (link : L) (state : LinkState) (before now : NetState L) (result : Result Unit E) : Type 0 where
  pub listed : OnOk result (now.back ≡ ending_with link before.back)
  pub dropped : OnErr result (now.back ≡ before.back)
  pub closed : now.closed ≡ counted_if state.closed before.closed
  pub coming : now.coming ≡ before.coming
  pub dialled : now.dialled ≡ before.dialled
  pub port : now.port ≡ before.port
