use Rattle.std.proofs.Common.{◌≡◌, ◌++◌, sym, ◌∙◌, subst}
use Rattle.std.specs.Prelude.{Err}
use Rattle.cov_report.specs.declared.answer.SkipCause.TheVariants.{BadMap}
use Rattle.cov_report.specs.Wanted.{sources_asked}
use Rattle.cov_report.specs.Gathering.{Gathers}
use Rattle.cov_report.proofs.Steps.{Gathers-skip}
use Rattle.cov_report.proofs.asking.ask_sources.Goals as goal

pub returns-in_ok-skip-in-None-clause-gathers : goal.returns-in_ok-skip-in-None-clause-gathers
returns-in_ok-skip-in-None-clause-gathers g c =
    λ told is earlier holds.
    subst (λ good. Gathers told (earlier ++ sources_asked c.args.script.now good) c.skip.new.self) (sym (sym c.in_ok-good.ensures ∙ c.in-None.is))
    (Gathers-skip told earlier (record { name = c.args.script.now.url; wanted = Err BadMap }) BadMap c.args.gathered.now c.skip.new.self _ (λ i. Err BadMap)
    c.as_text.ensures c.in_ok-skip-in-None.ensures.files c.in_ok-skip-in-None.ensures.skips holds)
