use Rattle.std.proofs.Common.{◌≡◌, length, ap, ◌∙◌, arith, rules}
use Rattle.std.specs.Prelude.{Some}
use Rattle.std.specs.Vec.{vec_len}
use Rattle.cov_book.specs.Renewed.{renewed_at}
use Rattle.cov_book.proofs.Renewing.{renewed-set}
use Rattle.cov_book.proofs.changed.put_again.Goals as goal

pub returns : goal.returns
returns c = λ fs.
    let grown = c.grow.new.again in
    let len : vec_len grown ≡ length grown.items = search rules in
    renewed-set fs grown.items c.args.at c.args.sums (omega (arith, len, c.in_ok-grow.ensures.place))
    ∙ ap (λ gs. renewed_at gs c.args.at (Some c.args.sums)) (c.in_ok-grow.ensures.same fs)
