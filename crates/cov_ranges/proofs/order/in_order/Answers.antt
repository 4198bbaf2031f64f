use Rattle.std.proofs.Common.{ap, ◌∙◌, rules}
use Rattle.std.specs.List.{filter}
use Rattle.std.specs.List.Sorted.{ties}
use Rattle.std.proofs.lemmas.List.Sorted.{answers_always}
use Rattle.cov_ranges.specs.Order.{comes_first}
use Rattle.cov_ranges.proofs.Sorted.{comes_first-ranks}
use Rattle.cov_ranges.proofs.order.in_order.Goals as goal

pub returns-clause-sorted : goal.returns-clause-sorted
returns-clause-sorted c = c.in_ok-sort_by.ensures.sorted comes_first comes_first-ranks (answers_always _ _ _ (λ f a r f' k. search rules))

pub returns-clause-stable : goal.returns-clause-stable
returns-clause-stable c = λ x.
    c.in_ok-sort_by.ensures.stable comes_first comes_first-ranks (answers_always _ _ _ (λ f a r f' k. search rules)) x
    ∙ ap (filter (ties comes_first x)) c.in_ok-ordered.ensures.items
