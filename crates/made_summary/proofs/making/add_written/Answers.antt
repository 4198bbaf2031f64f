use Rattle.std.proofs.Common.{[], ◌∷◌, ◌++◌, ap, ◌∙◌, sym, subst}
use Rattle.cov_model.specs.Reading.{reading}
use Rattle.cov_book.specs.Stands.{StandsFor}
use Rattle.cov_laws.proofs.ReadBack.{read_back}
use Rattle.made_summary.proofs.making.add_written.Goals as goal

pub returns-in_default : goal.returns-in_default
returns-in_default g c = tt

pub returns-in-Ok-add : goal.returns-in-Ok-add
returns-in-Ok-add g c = λ held stands.
    let text = sym (ap reading (c.as_slice.ensures ∙ c.in_ok-text.ensures)) ∙ c.in-Ok.ensures in
    let same = read_back c.args.scripts.now c.in-Ok.snapshot c.requires text in
    subst (λ s. StandsFor c.add.new.self (held ++ s ∷ [])) same (c.in-Ok-add.ensures.ok held stands).1
