use Rattle.std.proofs.Common.{ap}
use Rattle.std.proofs.lemmas.Slice.Eq.{slice_eq-Decides}
use Rattle.cov_book.specs.Listed.{all_listed, urls_in}
use Rattle.cov_book.proofs.Alike.{script-Decides, books-Decide, lists-Decide}
use Rattle.cov_book.proofs.Flat.{scripts-told}
use Rattle.cov_book.proofs.Grown.{urls-sorted}
use Rattle.cov_book.proofs.book.Book.agrees.Goals as goal

pub returns-clause-sums : goal.returns-clause-sums
returns-clause-sums c =
    let a = c.self.inside.scripts.items in
    let b = c.other.inside.scripts.items in
    let same = slice_eq-Decides script-Decides a b c.eq.result c.eq.ensures in
    books-Decide (urls_in a) (urls_in b) (all_listed a) (all_listed b) c.args.self.now c.args.other.now c.self.invariant c.other.invariant c.self.view_is c.other.view_is c.eq.result (
      λ e. (ap urls_in (same.0 e), ap all_listed (same.0 e)),
      λ e. same.1 (scripts-told a b (urls-sorted (urls_in a) (all_listed a) c.self.invariant) (urls-sorted (urls_in b) (all_listed b) c.other.invariant) e.0 e.1),
    )

pub returns-clause-lists : goal.returns-clause-lists
returns-clause-lists c = lists-Decide c.args.self.now c.args.other.now c.eq.result (returns-clause-sums c)
