use Rattle.std.proofs.Common.{get_or, arith}
use Rattle.std.proofs.lemmas.Bool.{lt-ltb, le-ltb}
use Rattle.std.proofs.lemmas.List.{drop_more}
use Rattle.cov_text.specs.Listing.{limit}
use Rattle.cov_book.specs.declared.stretches.Stretch.{Stretch}
use Rattle.cov_book.proofs.Stretched.{ahead-found, ahead-more}
use Rattle.cov_book.proofs.stretches.first_over.Goals as goal

pub returns-then-stretch-gt-LIMIT : goal.returns-then-stretch-gt-LIMIT
returns-then-stretch-gt-LIMIT c = λ end p covers tests.
    let sums = c.args.sums.now in
    let k = c.loop-stretch.stretch-index in
    let none : Stretch = record { end = 0; sum = 0 } in
    let w = get_or sums k none in
    ahead-found sums c.args.start c.loop-stretch.from k end p w (c.loop-stretch.invariant end p covers tests) tests (drop_more sums k none c.loop-stretch-test.true)
    (lt-ltb limit w.sum (omega (arith, c.if-stretch-gt-LIMIT.true)))

pub loop-stretch-preserved : goal.loop-stretch-preserved
loop-stretch-preserved c = λ end p covers tests.
    let sums = c.args.sums.now in
    let k = c.loop-stretch.stretch-index in
    let none : Stretch = record { end = 0; sum = 0 } in
    let w = get_or sums k none in
    ahead-more sums c.args.start c.loop-stretch.from k end p w (c.loop-stretch.invariant end p covers tests) tests (drop_more sums k none c.loop-stretch-test.true)
    (le-ltb limit w.sum (omega (arith, c.if-stretch-gt-LIMIT.false)))
