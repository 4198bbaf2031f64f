use Rattle.std.proofs.Common.{◌≡◌, false, [], sym, ◌∙◌}
use Rattle.std.specs.Prelude.{is_some, slice_get}
use Rattle.cov_book.specs.Told.{named}
use Rattle.cov_book.specs.Listed.{hit}
use Rattle.cov_book.proofs.Renewing.{none-is}
use Rattle.cov_book.proofs.Searched.{found-place}
use Rattle.cov_book.proofs.looking.place_among.Goals as goal

pub returns-else-is_function_at : goal.returns-else-is_function_at
returns-else-is_function_at c =
    let k = named [] c.args.start c.args.end c.args.name.now in
    let fs = c.args.functions.now in
    let at = c.place_of-at.result in
    let none : is_some (hit k (slice_get fs at)) ≡ false = sym c.is_function_at.ensures ∙ c.if-is_function_at.false in
    found-place k fs at c.requires c.place_of-at.ensures.front c.place_of-at.ensures.back ∙ none-is (hit k (slice_get fs at)) none
