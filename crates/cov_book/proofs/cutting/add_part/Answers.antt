use Rattle.std.proofs.Common.{[], ◌∷◌, ◌++◌, sym, ap, ◌∙◌}
use Rattle.cov_book.specs.Weights.{entries_in, entry_of}
use Rattle.cov_book.proofs.Weighed.{alike-itself, parts-push}
use Rattle.cov_book.proofs.cutting.add_part.Goals as goal

pub returns-then-stays : goal.returns-then-stays
returns-then-stays c =
    let old = c.args.parts.now.items in
    let w = c.args.whole.now in
    alike-itself (entries_in old ++ entry_of w ∷ []) (entries_in c.push.new.self.items) (sym (ap entries_in c.in_ok-push.ensures.items ∙ parts-push old w))
