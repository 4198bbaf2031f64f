use Rattle.std.proofs.Common.{◌≡◌, List, [], ◌∷◌, ◌++◌, map}
use Rattle.std.specs.Prelude.{drop, string_bytes}
use Rattle.cov_commands.specs.Child.{child_words}
use Rattle.cov_commands.proofs.child.words_of.Given as goal

abbrev pub invariant-loop-word : goal.invariant-loop-word
invariant-loop-word l = map string_bytes l.words.items ++ drop l.word-index l.command.words ≡ child_words l.command
