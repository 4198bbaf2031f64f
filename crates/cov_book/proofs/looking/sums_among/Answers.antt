use Rattle.std.proofs.Common.{◌≡◌, [], sym, ap, ◌∙◌}
use Rattle.std.specs.Prelude.{Some, None, cond, slice_get}
use Rattle.cov_book.specs.Told.{named}
use Rattle.cov_book.specs.Listed.{hit}
use Rattle.cov_book.proofs.Searched.{found-place, item-at, lookup-own}
use Rattle.cov_book.proofs.looking.sums_among.Goals as goal

pub returns-in_default : goal.returns-in_default
returns-in_default c = λ url.
    let k = named [] c.args.start c.args.end c.args.name.now in
    let fs = c.args.functions.now in
    let is : slice_get fs c.place_of-at.result ≡ None = item-at fs c.place_of-at.result None c.in_default.ensures.lookup in
    sym (lookup-own url c.args.start c.args.end c.args.name.now fs ∙ found-place k fs c.place_of-at.result c.requires c.place_of-at.ensures.front c.place_of-at.ensures.back ∙ ap (hit k) is)

pub returns-then-is_function : goal.returns-then-is_function
returns-then-is_function c = λ url.
    let k = named [] c.args.start c.args.end c.args.name.now in
    let fs = c.args.functions.now in
    let f = c.in-Some.function.now in
    let is : slice_get fs c.place_of-at.result ≡ Some f = item-at fs c.place_of-at.result (Some c.in-Some.function) c.in-Some.ensures.lookup in
    sym (lookup-own url c.args.start c.args.end c.args.name.now fs ∙ found-place k fs c.place_of-at.result c.requires c.place_of-at.ensures.front c.place_of-at.ensures.back ∙ ap (hit k) is
    ∙ ap (λ b. cond b (Some f.sums) None) (sym c.is_function.ensures ∙ c.if-is_function.true))

pub returns-else-is_function : goal.returns-else-is_function
returns-else-is_function c = λ url.
    let k = named [] c.args.start c.args.end c.args.name.now in
    let fs = c.args.functions.now in
    let f = c.in-Some.function.now in
    let is : slice_get fs c.place_of-at.result ≡ Some f = item-at fs c.place_of-at.result (Some c.in-Some.function) c.in-Some.ensures.lookup in
    sym (lookup-own url c.args.start c.args.end c.args.name.now fs ∙ found-place k fs c.place_of-at.result c.requires c.place_of-at.ensures.front c.place_of-at.ensures.back ∙ ap (hit k) is
    ∙ ap (λ b. cond b (Some f.sums) None) (sym c.is_function.ensures ∙ c.if-is_function.false))
