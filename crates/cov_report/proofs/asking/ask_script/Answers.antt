use Rattle.std.proofs.Common.{◌≡◌, ◌∙◌, ap, sym, refl, length}
use Rattle.cov_report.specs.declared.answer.SkipCause.TheVariants.{NotFile}
use Rattle.cov_report.specs.Wanted.{direct, direct_wanted}
use Rattle.istanbul_rules.specs.Parts.{direct_part}
use Rattle.cov_report.proofs.Steps.{Gathers-skip, Gathers-refused, Gathers-part, direct-none, direct-some}
use Rattle.cov_report.proofs.asking.ask_script.Goals as goal

pub returns-in_default-clause-gathers : goal.returns-in_default-clause-gathers
returns-in_default-clause-gathers g c =
    λ told is earlier holds.
    Gathers-skip told earlier (direct c.args.script.now) NotFile c.args.gathered.now c.skip.new.self _
    (direct-none c.args.script.now _ c.as_text-url.ensures (sym c.in_ok-path.ensures ∙ c.in_default.is))
    c.as_text-url.ensures c.in_ok-skip.ensures.files c.in_ok-skip.ensures.skips holds

pub returns-in_ok-put-in-Ok-clause-gathers : goal.returns-in_ok-put-in-Ok-clause-gathers
returns-in_ok-put-in-Ok-clause-gathers g c =
    λ told is earlier holds.
    Gathers-part told earlier (direct c.args.script.now) (direct_wanted c.args.script.now c.in-Some.path) c.in-Ok.file c.in_ok-part-in-Ok.part c.args.gathered.now c.put.new.self c.taken.new.files
    (direct-some c.args.script.now _ c.in-Some.path c.as_text-url.ensures (sym c.in_ok-path.ensures ∙ c.in-Some.is))
    (sym c.in-Ok.is ∙ c.in_ok-file.ensures.file told is)
    c.in_ok-file.ensures.others
    (c.in_ok-part-in-Ok.ensures ∙ ap (λ t. direct_part t c.as_slice.result.now) c.table.ensures ∙ ap (direct_part c.in-Ok.file.table) c.as_slice.ensures)
    c.in_ok-put-in-Ok.ensures.files c.in_ok-put-in-Ok.ensures.skips holds

pub returns-in_ok-skip-in-Err-clause-gathers : goal.returns-in_ok-skip-in-Err-clause-gathers
returns-in_ok-skip-in-Err-clause-gathers g c =
    λ told is earlier holds.
    Gathers-refused told earlier (direct c.args.script.now) (direct_wanted c.args.script.now c.in-Some.path) c.in-Err.cause c.args.gathered.now c.skip-in-Err.new.self c.taken.new.files _
    (direct-some c.args.script.now _ c.in-Some.path c.as_text-url.ensures (sym c.in_ok-path.ensures ∙ c.in-Some.is))
    c.as_text-url.ensures
    (sym c.in-Err.is ∙ c.in_ok-file.ensures.file told is)
    c.in_ok-file.ensures.others c.in_ok-skip-in-Err.ensures.files c.in_ok-skip-in-Err.ensures.skips holds
