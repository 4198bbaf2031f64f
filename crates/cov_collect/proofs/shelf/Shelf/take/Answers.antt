use Rattle.std.proofs.Common.{◌∙◌, ap, ◌++◌, ◌∷◌, []}
use Rattle.cov_collect.specs.Shelves.{answer_at}
use Rattle.cov_collect.proofs.Shelves.{IsShelf-push}
use Rattle.cov_collect.proofs.shelf.Shelf.take.Goals as goal

pub invariant_of-self-2 : goal.invariant_of-self-2
invariant_of-self-2 g c =
    IsShelf-push g.N.Naming.base g.N.Naming.texts c.self.inside.answers.items c.self.inside.order.items _ c.self.inside.book
    c.answer_of.new.book c.args.place c.args.read _ c.self.invariant
    c.requires.read
    (ap (λ s. answer_at s.answers c.args.place) c.self.view_is ∙ c.requires.open)
    (c.push_reserved.ensures.items ∙ ap (λ xs. xs ++ c.args.place ∷ []) c.reserve.ensures.items)
    c.in_ok-answer.ensures.answer
    c.in_ok-answer.ensures.book
