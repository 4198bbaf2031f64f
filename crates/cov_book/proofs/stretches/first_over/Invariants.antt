use Rattle.std.proofs.Common.{ℕ, Bool}
use Rattle.cov_model.specs.declared.sums.At.{At}
use Rattle.cov_book.specs.Stretching.{IsCover}
use Rattle.cov_book.proofs.Stretched.{IsAhead, Tests}
use Rattle.cov_book.proofs.stretches.first_over.Given as goal

abbrev pub invariant-loop-stretch : goal.invariant-loop-stretch
invariant-loop-stretch l = (end : ℕ) (p : At → Bool) → IsCover l.start end l.sums → Tests l.sums l.start end p → IsAhead l.sums l.start l.from l.stretch-index end p
