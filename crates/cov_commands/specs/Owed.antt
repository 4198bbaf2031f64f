-- What a command owes, before anything is put out.
use Rattle.std.specs.Prelude.{ℕ, List, [], Result, IfOk, IfErr}
use Rattle.serde_json.specs.Written.{compact_text}
use Rattle.cov_model.specs.File.{result_data}
use Rattle.istanbul_json.specs.Value.{files_text}
use Rattle.cov_commands.specs.declared.due.Due.{Due}
use Rattle.cov_commands.specs.declared.due.Output.{Output}
use Rattle.cov_commands.specs.declared.due.Output.TheVariants.{Bytes, Scripts, Coverage}
use Rattle.cov_commands.specs.declared.ended.Ended.{Ended}
use Rattle.cov_commands.specs.Ends.{IsFinished}

-- The bytes for the output, the lines for the error sink, and how the command then ends.
pub record Owed : Type 0 where
  pub out : List ℕ
  pub err : List ℕ
  pub ended : Ended

-- an early end, with nothing for the sinks
abbrev pub early : Ended → Owed
early ended = record { out = []; err = []; ended = ended }

-- what a body has made of it
abbrev pub text_of : Output → List ℕ
text_of (Bytes bytes) = bytes
text_of (Scripts scripts) = compact_text (result_data scripts)
text_of (Coverage files) = files_text files

abbrev pub owed_of : Due → Owed
owed_of due = record { out = text_of due.out; err = due.err; ended = due.ended }

-- What a command has to do, by what is outside (a `W`) before and now. It is a relation: one command may have several lawful
-- outcomes, as those of each order in which workers take texts, of each script of a link, or of each status of a child.
pub record Duty (W : Type 0) : Type 1 where
  -- this outcome is lawful; an early end is one more of them, with its cause
  pub owes : W → W → Owed → Type 0
  -- something that the words name is absent
  pub missing : W → Type 0
  -- a count of what the command reads has risen
  pub risen : W → W → Type 0

-- The contract of a body that puts nothing out itself: it gives what is owed, or says how it ends before that.
pub record Gives {W : Type 0} (duty : Duty W) (before now : W) (result : Result Due Ended) : Type 0 where
  pub ok : IfOk result (λ due. duty.owes before now (owed_of due))
  pub finished : IfOk result (λ due. IsFinished due.ended)
  pub err : IfErr result (λ ended. duty.owes before now (early ended))
