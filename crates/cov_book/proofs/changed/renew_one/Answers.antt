use Rattle.std.proofs.Common.{◌≡◌, length, sym, ap, ◌∙◌, arith, rules}
use Rattle.std.specs.Vec.{vec_len}
use Rattle.cov_book.specs.Renewed.{renewed_at}
use Rattle.cov_book.proofs.Renewing.{at-none, at-past, at-there, read-at}
use Rattle.cov_book.proofs.changed.renew_one.Goals as goal

pub returns-in_default : goal.returns-in_default
returns-in_default c = sym (ap (renewed_at c.args.functions.now.items c.args.at) c.in_default.is ∙ at-none c.args.functions.now.items c.args.at)

pub returns-then-at-len : goal.returns-then-at-len
returns-then-at-len c =
    let fs = c.args.functions.now.items in
    let at = c.args.at in
    let len : vec_len c.args.functions.now ≡ length fs = search rules in
    let there = read-at fs at c.index_mut.result.now (omega (arith, len, c.len.ensures, c.if-at-len.true)) c.index_mut.ensures.value in
    sym (ap (renewed_at fs at) c.in-Some.is ∙ at-there fs at c.index_mut.result.now c.in-Some.sums there)

pub returns-else-at-len : goal.returns-else-at-len
returns-else-at-len c =
    let fs = c.args.functions.now.items in
    let len : vec_len c.args.functions.now ≡ length fs = search rules in
    sym (at-past fs c.args.at c.args.sums (omega (arith, len, c.len.ensures, c.if-at-len.false)))
