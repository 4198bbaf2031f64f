use Rattle.std.proofs.Common.{◌≡◌, sym, ◌∙◌, rules}
use Rattle.std.specs.Ordering.{is_lt}
use Rattle.cov_text.specs.Listing.{text_cmp}
use Rattle.cov_book.proofs.Renewing.{are-before-last}
use Rattle.cov_book.proofs.changed.are_before.Goals as goal

pub returns : goal.returns
returns c = λ lt.
    let x = c.in-Some.last.now in
    let order : c.is_lt.result ≡ is_lt (text_cmp x.url c.args.url.now) = search rules in
    are-before-last c.args.url.now c.args.changes.now x c.requires (sym c.in-Some.ensures.value) (sym order ∙ lt)
