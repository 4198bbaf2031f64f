use Rattle.std.proofs.Common.{◌≡◌, ◌++◌, drop, map}
use Rattle.std.specs.Prelude.{string_bytes}
use Rattle.cov_io.proofs.mem_spawn.copied.Given as goal

-- the texts so far, with those of the rest, are those of all
abbrev pub invariant-loop-word : goal.invariant-loop-word
invariant-loop-word l = l.texts ++ map string_bytes (drop l.word-index l.words) ≡ map string_bytes l.words
