use Rattle.std.proofs.Common.{ap, sym, ◌∙◌}
use Rattle.std.specs.Map.{lookup}
use Rattle.std.specs.BTreeMap.{is_at}
use Rattle.cov_model.specs.Sums.{file_order}
use Rattle.cov_book.specs.Listed.{own_list}
use Rattle.cov_book.specs.Told.{named}
use Rattle.cov_book.proofs.Among.{held-url}
use Rattle.cov_book.proofs.looking.sums_named.Goals as goal

pub returns : goal.returns
returns c =
    let url = c.args.url.now in
    let k = named url c.args.start c.args.end c.args.name.now in
    c.sums_among.ensures url ∙ ap (λ fs. lookup (is_at (file_order k)) (own_list url fs)) c.functions_of.ensures.functions ∙ sym (held-url k c.args.scripts.now c.requires.urls)
