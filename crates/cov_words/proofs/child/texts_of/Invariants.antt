use Rattle.std.proofs.Common.{◌≡◌, ◌++◌, map}
use Rattle.std.specs.Prelude.{drop}
use Rattle.cov_words.proofs.child.texts_of.Given as goal

abbrev pub invariant-loop-word : goal.invariant-loop-word
invariant-loop-word l = l.texts ++ map (λ word. word.now) (drop l.word-index l.given) ≡ map (λ word. word.now) l.given
