-- What a sink has got of a text, and what is still kept for it.
use Rattle.std.specs.Prelude.{◌≡◌, ◌≤◌, ℕ, max, List, ◌++◌, ⊤, Option, None, Some, Result, OnOk}
use Rattle.std.specs.Io.KnownBytes.{Appends}
use Rattle.cov_io.specs.declared.sink.SinkFault.{SinkFault}
use Rattle.cov_io.specs.declared.sink.SinkFault.TheVariants.{Failed}
use Rattle.cov_io.specs.Causes.{HasCause}
use Rattle.cov_io.specs.Grows.{AppendsPart}

-- a sink at a moment: the bytes and the longest length of a piece that it tells, and its count of faults
pub record OutAt : Type 0 where
  pub held : Option (List ℕ)
  pub longest : Option ℕ
  pub faults : ℕ

abbrev pub out_at : Option (List ℕ) → Option ℕ → ℕ → OutAt
out_at held longest faults = record { held = held; longest = longest; faults = faults }

-- the longest piece is at most the greater of a limit and what it was, where that was told
abbrev pub IsWithin : ℕ → Option ℕ → Option ℕ → Type 0
IsWithin limit None now = ⊤
IsWithin limit (Some before) None = ⊥
IsWithin limit (Some before) (Some now) = now ≤ max limit before

-- the limit: 64 KiB
abbrev pub piece : ℕ
piece = 65536

-- A text is written whole, or a prefix of it where that is refused.
pub record Writes (text : List ℕ) (before now : OutAt) (result : Result (Unit {0}) SinkFault) : Type 0 where
  pub whole : OnOk result (Appends before.held now.held text)
  pub prefix : AppendsPart before.held now.held text
  pub within : IsWithin piece before.longest now.longest
  pub cause : HasCause Failed before.faults now.faults result

-- A text is put behind what is kept for a sink, and a front of both is handed to it on the way.
pub record Hands (text : List ℕ) (before now : OutAt) (kept_before kept_now : List ℕ) (result : Result (Unit {0}) SinkFault) : Type 0 where
  -- what the sink has got, and what is left for it
  pub got : List ℕ
  pub left : List ℕ
  pub all : got ++ left ≡ kept_before ++ text
  pub gains : Appends before.held now.held got
  pub kept : OnOk result (kept_now ≡ left)
  pub within : IsWithin piece before.longest now.longest
  pub cause : HasCause Failed before.faults now.faults result
