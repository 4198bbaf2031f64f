use Rattle.std.proofs.Common.{◌≡◌, ◌∙◌, List, sym, subst}
use Rattle.std.specs.Prelude.{IfOk}
use Rattle.cov_book.specs.Prepared.{AreAligned}
use Rattle.std.proofs.lemmas.Result.{IfOk-weaker}
use Rattle.cov_model.specs.declared.snapshot.Snapshot.{Snapshot}
use Rattle.cov_book.specs.Numbers.{numbers_of, numbers_told}
use Rattle.cov_book.specs.Stands.{StandsFor}
use Rattle.cov_book.proofs.Counting.{numbers-are}
use Rattle.cov_book.proofs.Grown.{entries-held, urls-held}
use Rattle.cov_book.proofs.Telling.{aligned}
use Rattle.cov_book.specs.Listed.{all_listed, urls_in}
use Rattle.cov_book.proofs.book.Book.numbers.Goals as goal

pub numbers_in-requires : goal.numbers_in-requires
numbers_in-requires c = subst (λ ss. AreAligned (all_listed ss)) (sym c.deref.ensures.value) (aligned (urls_in c.self.inside.scripts.items) (all_listed c.self.inside.scripts.items) c.self.invariant)

pub returns : goal.returns
returns c =
    let urls = urls_in c.self.inside.scripts.items in
    let entries = all_listed c.self.inside.scripts.items in
    IfOk-weaker c.numbers_in.result (λ numbers. numbers ≡ numbers_told urls entries) (λ numbers. (held : List Snapshot) → StandsFor c.args.self.now held → numbers ≡ numbers_of held)
    (λ numbers is held stands.
    is
    ∙ (λ i. numbers_told (urls-held urls entries c.args.self.now c.self.invariant c.self.view_is held stands i) (entries-held urls entries c.args.self.now c.self.invariant c.self.view_is held stands i))
    ∙ numbers-are held)
    (subst (λ ss. IfOk c.numbers_in.result (λ numbers. numbers ≡ numbers_told (urls_in ss) (all_listed ss))) c.deref.ensures.value c.numbers_in.ensures)
