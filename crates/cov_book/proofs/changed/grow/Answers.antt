use Rattle.std.proofs.Common.{ap, ◌∙◌}
use Rattle.cov_book.specs.Renewed.{renewed}
use Rattle.cov_book.proofs.Renewing.{renewed-more}
use Rattle.cov_book.proofs.changed.grow.Goals as goal

pub fill-preserved : goal.fill-preserved
fill-preserved c = λ fs. ap (renewed fs) c.in_ok-push.ensures.items ∙ renewed-more fs c.fill.again.items ∙ c.fill.invariant fs
