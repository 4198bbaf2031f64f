use Rattle.std.proofs.Common.{◌++◌, sym, ap, ◌∙◌, subst, map}
use Rattle.std.proofs.lemmas.List.{drop_all, append-nil}
use Rattle.cov_model.specs.Nesting.{AreNested}
use Rattle.cov_session.specs.View.{seen_entry}
use Rattle.cov_session.proofs.Seen.{view_nested}
use Rattle.cov_session.proofs.seeing.viewed.Goals as goal

pub new-requires : goal.new-requires
new-requires c =
    let scripts = c.scripts-scripts.result.now in
    let entries = c.loop-entry.entries in
    let left = drop_all c.loop-entry.entry-index scripts c.loop-entry-test.false in
    let whole = sym (append-nil entries) ∙ ap (λ xs. entries ++ map (seen_entry c.args.flags) xs) (sym left) ∙ c.loop-entry.invariant in
    subst AreNested (sym whole) (view_nested c.args.flags scripts (subst AreNested (sym c.scripts-scripts.ensures.value) c.scripts-scripts.ensures.nested))
