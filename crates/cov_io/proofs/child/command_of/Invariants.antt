use Rattle.std.proofs.Common.{◌≡◌, ◌∷◌, ◌++◌, drop, map}
use Rattle.std.specs.Prelude.{string_bytes}
use Rattle.std.specs.Process.{command_program, command_args}
use Rattle.cov_io.proofs.child.command_of.Given as goal

-- the words so far, with those of the rest, are all words
abbrev pub invariant-loop-word : goal.invariant-loop-word
invariant-loop-word l =
    command_program l.command ∷ (command_args l.command ++ map string_bytes (drop l.word-index l.others))
    ≡ map string_bytes l.words
