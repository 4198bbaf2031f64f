use Rattle.std.proofs.Common.{◌≡◌, ◌∙◌, map, List, sym, subst}
use Rattle.std.proofs.lemmas.Result.{IfOk-weaker}
use Rattle.cov_model.specs.declared.snapshot.Snapshot.{Snapshot}
use Rattle.cov_model.specs.File.{scripts_in}
use Rattle.cov_model.specs.Sums.{keys_in_order}
use Rattle.cov_book.specs.Prepared.{AreAligned, told_entry}
use Rattle.cov_book.specs.Stands.{AreUpright, StandsFor}
use Rattle.cov_book.proofs.Agreeing.{agree-scripts}
use Rattle.cov_model.specs.Nesting.{AreNested}
use Rattle.cov_book.proofs.Flat.{told-all, told-scripts}
use Rattle.cov_book.proofs.Grown.{urls-sorted}
use Rattle.cov_book.proofs.Nested.{keys-upright}
use Rattle.cov_book.proofs.Seen.{stands-agree}
use Rattle.cov_book.proofs.Telling.{aligned, told, told-nested}
use Rattle.cov_book.specs.Listed.{all_listed, told_script, urls_in}
use Rattle.cov_book.proofs.book.Book.scripts_in.Goals as goal

pub scripts_of-requires-clause-aligned : goal.scripts_of-requires-clause-aligned
scripts_of-requires-clause-aligned c = subst (λ ss. AreAligned (all_listed ss)) (sym c.deref.ensures.value) (aligned (urls_in c.self.inside.scripts.items) (all_listed c.self.inside.scripts.items) c.self.invariant)

pub scripts_of-requires-clause-nested : goal.scripts_of-requires-clause-nested
scripts_of-requires-clause-nested c =
    let items = c.self.inside.scripts.items in
    let told = told-scripts c.args.form items (urls-sorted (urls_in items) (all_listed items) c.self.invariant) in
    subst (λ ss. AreNested (map (told_script c.args.form) ss)) (sym c.deref.ensures.value) (subst AreNested (sym told) (told-nested c.args.form (urls_in items) (all_listed items) c.self.invariant))

pub returns-clause-value : goal.returns-clause-value
returns-clause-value c =
    let urls = urls_in c.self.inside.scripts.items in
    let entries = all_listed c.self.inside.scripts.items in
    IfOk-weaker c.scripts_of.result (λ snapshot. snapshot ≡ map (told_entry c.args.form entries) urls) (λ snapshot. (held : List Snapshot) → StandsFor c.args.self.now held → snapshot ≡ scripts_in c.args.form held)
    (λ snapshot is held stands.
    is ∙ told c.args.form urls entries c.self.invariant ∙ agree-scripts c.args.form c.self.invariant.held held (stands-agree urls entries c.args.self.now c.self.invariant c.self.view_is held stands))
    (told-all c.args.form c.self.inside.scripts.items c.deref.result.now c.scripts_of.result (urls-sorted (urls_in c.self.inside.scripts.items) (all_listed c.self.inside.scripts.items) c.self.invariant) c.deref.ensures.value c.scripts_of.ensures)

pub returns-clause-upright : goal.returns-clause-upright
returns-clause-upright c =
    let urls = urls_in c.self.inside.scripts.items in
    let entries = all_listed c.self.inside.scripts.items in
    IfOk-weaker c.scripts_of.result (λ snapshot. snapshot ≡ map (told_entry c.args.form entries) urls) (λ snapshot. (held : List Snapshot) → StandsFor c.args.self.now held → AreUpright (keys_in_order held))
    (λ snapshot is held stands.
    subst AreUpright (stands-agree urls entries c.args.self.now c.self.invariant c.self.view_is held stands).keys (keys-upright c.self.invariant.held c.self.invariant.nested))
    (told-all c.args.form c.self.inside.scripts.items c.deref.result.now c.scripts_of.result (urls-sorted (urls_in c.self.inside.scripts.items) (all_listed c.self.inside.scripts.items) c.self.invariant) c.deref.ensures.value c.scripts_of.ensures)
