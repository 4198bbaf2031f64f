use Rattle.std.proofs.Common.{rules}
use Rattle.std.specs.Prelude.{not}
use Rattle.std.proofs.lemmas.List.Sorted.{answers_always}
use Rattle.cov_ranges.specs.Order.{comes_first}
use Rattle.cov_ranges.proofs.Sorted.{sorted-answer}
use Rattle.cov_ranges.proofs.order.are_in_order.Goals as goal

pub returns : goal.returns
returns c =
    sorted-answer c.args.ranges.now c.is_sorted_by.result
    (c.is_sorted_by.ensures.cases (λ a b. not (comes_first b a)) (answers_always _ _ _ (λ f a r f' k. search rules)))
