-- One call of a command: `Call` is the whole contract of a top call, for any type of commands.
use Rattle.std.specs.Prelude.{◌≡◌, ◌≤◌, ◌⊎◌, ℕ, [], take, Option, None}
use Rattle.cov_io.specs.Told.{WhereTold}
use Rattle.json_pieces.specs.Pieces.{IsWithin, piece}
use Rattle.cov_commands.specs.declared.ended.Ended.{Ended}
use Rattle.cov_commands.specs.declared.ended.Ended.TheVariants.{Usage, WriteFault, ReadFault, NoMemory}
use Rattle.cov_commands.specs.Ends.{IsFinished, IsFinishedOrShort, fixed_line, last_line}
use Rattle.cov_commands.specs.Owed.{Owed, Duty}
use Rattle.cov_commands.specs.Sinks.{SinkAt, Gains, GainsPart, GainsLine, HasHanded, Fails, EndsAs, Puts}

-- What is outside at a moment: what a command reads, and the two sinks.
pub record Moment (W O E : Type 0) : Type 0 where
  pub world : W
  pub out : SinkAt O
  pub err : SinkAt E

abbrev pub moment : {W O E : Type 0} → W → SinkAt O → SinkAt E → Moment W O E
moment world out err = record { world = world; out = out; err = err }

-- It owes an early end, and nothing for the output.
abbrev pub EndsEarly : Owed → Type 0
EndsEarly owed = (IsFinished owed.ended → ⊥) × (owed.out ≡ [])

-- A command was run, and this is its answer.
pub record Ran {W O E : Type 0} (duty : Duty W) (before now : Moment W O E) (ended : Ended) : Type 0 where
  -- It owed one of its lawful outcomes. All that follows speaks of this one.
  pub owed : Owed
  pub owes : duty.owes before.world now.world owed
  -- It answers what it owed, or that a sink failed, or that it wanted memory.
  pub answers : EndsAs owed ended
  -- Where it came to its end, both sinks have got all that was owed, and nothing else.
  pub done : IsFinished ended
      → (ended ≡ owed.ended) × Gains before.out now.out owed.out × Gains before.err now.err owed.err
  -- Whatever the answer, the output has got a prefix of what was owed, and nothing else.
  pub out_prefix : GainsPart before.out now.out owed.out
  -- Whatever the answer, the error sink has got a prefix of the lines that were owed, and then the last line of the answer.
  pub err_prefix : (m : ℕ) × GainsLine before.err now.err (take m owed.err) (last_line ended)
  -- The error sink was handed a piece that is no shorter than the last line: the line itself, where no earlier one was longer. A
  -- line that isn't a fixed text, that of a peer's fault, may be wanting for want of memory.
  pub handed : HasHanded now.err.longest (fixed_line ended)
  -- Whatever the answer, the longest piece that the output was handed is at most the greater of 65,536 bytes and what it was.
  pub within : IsWithin piece before.out.longest now.out.longest
  -- The output is whole before the error sink gets anything but the last line.
  pub order : Gains before.out now.out owed.out ⊎ GainsLine before.err now.err [] (last_line ended)
  -- `WriteFault` comes only where the output failed, or where the error sink failed and the output is whole.
  pub write : ended ≡ WriteFault
      → Fails before.out now.out ⊎ (Gains before.out now.out owed.out × Fails before.err now.err)
  -- `ReadFault` comes only where a count of what is read rose, or something that the words name is absent; it is an early end.
  pub read : ended ≡ ReadFault
      → EndsEarly owed × (duty.risen before.world now.world ⊎ duty.missing before.world)
  -- `Usage` doesn't come.
  pub taken : ended ≡ Usage → ⊥
  -- Where it owed an early end, this is the answer; the output wasn't called, and the error sink has got the last line alone.
  pub silent : EndsEarly owed
      → (ended ≡ owed.ended) × (now.out ≡ before.out) × GainsLine before.err now.err [] (last_line ended)
  -- Where it came to its end, no sink has failed: no fault is passed over.
  pub kept : IsFinished ended
      → (now.out.faults ≡ before.out.faults) × (now.err.faults ≡ before.err.faults)
  -- What is absent is not taken for empty: where no count rose either, the answer is `ReadFault`, or that it wanted memory.
  pub absent : duty.missing before.world
      → (IsFinished ended → ⊥)
      × ((duty.risen before.world now.world → ⊥) → (ended ≡ ReadFault) ⊎ (ended ≡ NoMemory))
  -- Where all is there and nothing failed, it comes to its end, or wants memory.
  pub complete : (duty.missing before.world → ⊥) → (duty.risen before.world now.world → ⊥)
      → (Fails before.out now.out → ⊥) → (Fails before.err now.err → ⊥) → IsFinishedOrShort ended
  -- No count of a sink falls.
  pub later : (before.out.faults ≤ now.out.faults) × (before.err.faults ≤ now.err.faults)

-- The words are no command: nothing was done but the last line.
pub record Unasked {W O E : Type 0} (before now : Moment W O E) (ended : Ended) : Type 0 where
  pub usage : (ended ≡ Usage) ⊎ (ended ≡ NoMemory)
  pub world : now.world ≡ before.world
  pub out : now.out ≡ before.out
  pub err : GainsLine before.err now.err [] (last_line ended)
  pub handed : HasHanded now.err.longest (fixed_line ended)
  pub later : before.err.faults ≤ now.err.faults

-- The whole of a call: the command that the words ask for was run, or they ask for none.
pub record Call {C W O E : Type 0} (duty : C → Duty W) (asked : Option C) (before now : Moment W O E) (ended : Ended) : Type 0 where
  pub usage : asked ≡ None → Unasked before now ended
  pub ran : WhereTold asked (λ command. Ran (duty command) before now ended)

-- ---- the steps of a call, before its last line

-- A command was run, and its last line is still to come.
pub record Runs {W O E : Type 0} (duty : Duty W) (before now : Moment W O E) (ended : Ended) : Type 0 where
  pub owed : Owed
  pub owes : duty.owes before.world now.world owed
  pub puts : Puts owed before.out now.out before.err now.err ended

-- The same of what the words ask for, if they do.
pub record Asks {C W O E : Type 0} (duty : C → Duty W) (asked : Option C) (before now : Moment W O E) (ended : Ended) : Type 0 where
  pub none : asked ≡ None → (now ≡ before) × ((ended ≡ Usage) ⊎ (ended ≡ NoMemory))
  pub some : WhereTold asked (λ command. Runs (duty command) before now ended)
