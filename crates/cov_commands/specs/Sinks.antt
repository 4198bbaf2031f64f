-- What a sink has got, and why it got no more.
use Rattle.std.specs.Prelude.{◌≡◌, ◌≤◌, ◌⊎◌, ◌++◌, ℕ, List, [], length, take, Option}
use Rattle.std.specs.Io.KnownBytes.{Appends}
use Rattle.cov_io.specs.Causes.{Rose}
use Rattle.cov_io.specs.Grows.{AppendsPart}
use Rattle.cov_io.specs.Told.{WhereTold}
use Rattle.json_pieces.specs.Pieces.{IsWithin, piece}
use Rattle.cov_commands.specs.declared.ended.Ended.{Ended}
use Rattle.cov_commands.specs.declared.ended.Ended.TheVariants.{WriteFault, NoMemory}
use Rattle.cov_commands.specs.Ends.{IsFinished, fixed_line, last_line}
use Rattle.cov_commands.specs.Owed.{Owed}

-- a sink at a moment: the sink itself, the bytes and the longest length of a piece that it tells, and its count of faults
pub record SinkAt (S : Type 0) : Type 0 where
  pub sink : S
  pub held : Option (List ℕ)
  pub longest : Option ℕ
  pub faults : ℕ

abbrev pub sink_at : {S : Type 0} → S → Option (List ℕ) → Option ℕ → ℕ → SinkAt S
sink_at sink held longest faults = record { sink = sink; held = held; longest = longest; faults = faults }

-- it has got this text more, where it tells its bytes
abbrev pub Gains : {S : Type 0} → SinkAt S → SinkAt S → List ℕ → Type 0
Gains before now text = Appends before.held now.held text

-- it has got a prefix of this text more
abbrev pub GainsPart : {S : Type 0} → SinkAt S → SinkAt S → List ℕ → Type 0
GainsPart before now text = AppendsPart before.held now.held text

-- its count rose
abbrev pub Fails : {S : Type 0} → SinkAt S → SinkAt S → Type 0
Fails before now = Rose before.faults now.faults

-- It has got the front, and behind that the whole line, or none of it for want of memory, or a prefix of it where it failed.
abbrev pub GainsLine : {S : Type 0} → SinkAt S → SinkAt S → List ℕ → List ℕ → Type 0
GainsLine before now front line =
    Gains before now (front ++ line)
    ⊎ (Gains before now front
    ⊎ (Fails before now × ((n : ℕ) × Gains before now (front ++ take n line))))

-- A sink of this longest length was handed no less than this text at once, where it tells that.
abbrev pub HasHanded : Option ℕ → List ℕ → Type 0
HasHanded longest text = WhereTold longest (λ n. length text ≤ n)

-- how a call ends that owed this: as it is owed, or by a sink
abbrev pub EndsAs : Owed → Ended → Type 0
EndsAs owed ended = (ended ≡ owed.ended) ⊎ ((ended ≡ WriteFault) ⊎ (ended ≡ NoMemory))

-- What is owed is put out, the output whole before the lines, or one of the sinks ends the command.
pub record Puts {O E : Type 0} (owed : Owed) (out_before out_now : SinkAt O)
    (err_before err_now : SinkAt E) (ended : Ended) : Type 0 where
  pub answers : EndsAs owed ended
  pub done : IsFinished ended
      → (ended ≡ owed.ended) × Gains out_before out_now owed.out × Gains err_before err_now owed.err
  pub out_prefix : GainsPart out_before out_now owed.out
  pub err_prefix : GainsPart err_before err_now owed.err
  pub order : Gains out_before out_now owed.out ⊎ (err_now ≡ err_before)
  pub write : ended ≡ WriteFault
      → Fails out_before out_now ⊎ (Gains out_before out_now owed.out × Fails err_before err_now)
  pub kept : IsFinished ended
      → (out_now.faults ≡ out_before.faults) × (err_now.faults ≡ err_before.faults)
  pub silent : (IsFinished owed.ended → ⊥) → owed.out ≡ []
      → (ended ≡ owed.ended) × (out_now ≡ out_before) × (err_now ≡ err_before)
  pub later : (out_before.faults ≤ out_now.faults) × (err_before.faults ≤ err_now.faults)
  pub within : IsWithin piece out_before.longest out_now.longest

-- The last line alone is put out, or the sink is not called where there is none.
pub record LastLine {S : Type 0} (before now : SinkAt S) (ended : Ended) : Type 0 where
  pub gains : GainsLine before now [] (last_line ended)
  pub handed : HasHanded now.longest (fixed_line ended)
  pub none : last_line ended ≡ [] → now ≡ before
  pub later : before.faults ≤ now.faults
