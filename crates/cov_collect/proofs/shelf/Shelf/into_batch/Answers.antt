use Rattle.std.proofs.Common.{sym, ◌∙◌, subst, length}
use Rattle.cov_collect.specs.Batches.{AllAnswered}
use Rattle.cov_collect.proofs.Shelves.{IsBatch-from}
use Rattle.cov_collect.proofs.shelf.Shelf.into_batch.Goals as goal

pub returns : goal.returns
returns g c =
    IsBatch-from g.N.Naming.base g.N.Naming.texts c.self.inside.book c.self.inside.answers.items c.self.inside.order.items _ _ c.self.invariant
    (subst (λ s. AllAnswered s.answers (length g.N.Naming.texts)) (sym c.self.view_is) c.requires)
    (c.from_vec.ensures ∙ c.in_ok-answers.ensures)
    c.from_vec-2.ensures
