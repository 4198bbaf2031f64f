use Rattle.std.proofs.Common.{◌≡◌, ◌∙◌, ap, sym, length}
use Rattle.std.specs.Prelude.{option_map}
use Rattle.std.specs.BTreeMap.{get}
use Rattle.cov_text.specs.Listing.{text_cmp}
use Rattle.json_shapes.specs.Shapes.{or_fault}
use Rattle.istanbul_rules.specs.Parts.{mapped_part}
use Rattle.cov_report.specs.declared.answer.SkipCause.TheVariants.{NotFile}
use Rattle.cov_report.specs.SoFar.{taken_from}
use Rattle.cov_report.specs.Wanted.{mapped, mapped_wanted, own_text}
use Rattle.cov_report.proofs.Steps.{Gathers-skip, Gathers-refused, Gathers-part, mapped-is}
use Rattle.cov_report.proofs.asking.ask_source.Goals as goal

pub returns-in_default-clause-gathers : goal.returns-in_default-clause-gathers
returns-in_default-clause-gathers g c =
    λ told is earlier holds.
    Gathers-skip told earlier (mapped c.args.script.now c.args.good.now c.args.k c.args.name.now) NotFile c.args.gathered.now c.skip.new.self c.args.name.now
    (mapped-is c.args.script.now c.args.good.now c.args.k c.args.name.now _ _ _ c.as_text-url.ensures c.is_some.ensures c.content_of-content.ensures
    ∙ ap (λ o. or_fault NotFile (option_map (mapped_wanted c.args.script.now c.args.good.now c.args.k) o)) (sym c.in_ok-path.ensures ∙ c.in_default.is))
    (λ i. c.args.name.now) c.in_ok-skip.ensures.files c.in_ok-skip.ensures.skips holds

pub returns-in_ok-put-in-Ok-clause-gathers : goal.returns-in_ok-put-in-Ok-clause-gathers
returns-in_ok-put-in-Ok-clause-gathers g c =
    λ told is earlier holds.
    Gathers-part told earlier (mapped c.args.script.now c.args.good.now c.args.k c.args.name.now) (mapped_wanted c.args.script.now c.args.good.now c.args.k c.in-Some.path)
    c.in-Ok.file c.in_ok-part-in-Ok.part c.args.gathered.now c.put.new.self c.taken.new.files
    (mapped-is c.args.script.now c.args.good.now c.args.k c.args.name.now _ _ _ c.as_text-url.ensures c.is_some.ensures c.content_of-content.ensures
    ∙ ap (λ o. or_fault NotFile (option_map (mapped_wanted c.args.script.now c.args.good.now c.args.k) o)) (sym c.in_ok-path.ensures ∙ c.in-Some.is))
    (sym c.in-Ok.is ∙ c.in_ok-file.ensures.file told is
    ∙ ap (λ t. taken_from (get text_cmp c.args.gathered.now.files c.in-Some.path) (own_text told c.in-Some.path t)) c.content_of-content.ensures)
    c.in_ok-file.ensures.others
    (c.in_ok-part-in-Ok.ensures
    ∙ (λ i. mapped_part (c.table.ensures i) (c.requires.remapped i).generated (c.requires.remapped i).segments c.args.k (c.requires.remapped i).functions))
    c.in_ok-put-in-Ok.ensures.files c.in_ok-put-in-Ok.ensures.skips holds

pub returns-in_ok-skip-in-Err-clause-gathers : goal.returns-in_ok-skip-in-Err-clause-gathers
returns-in_ok-skip-in-Err-clause-gathers g c =
    λ told is earlier holds.
    Gathers-refused told earlier (mapped c.args.script.now c.args.good.now c.args.k c.args.name.now) (mapped_wanted c.args.script.now c.args.good.now c.args.k c.in-Some.path)
    c.in-Err.cause c.args.gathered.now c.skip-in-Err.new.self c.taken.new.files c.args.name.now
    (mapped-is c.args.script.now c.args.good.now c.args.k c.args.name.now _ _ _ c.as_text-url.ensures c.is_some.ensures c.content_of-content.ensures
    ∙ ap (λ o. or_fault NotFile (option_map (mapped_wanted c.args.script.now c.args.good.now c.args.k) o)) (sym c.in_ok-path.ensures ∙ c.in-Some.is))
    (λ i. c.args.name.now)
    (sym c.in-Err.is ∙ c.in_ok-file.ensures.file told is
    ∙ ap (λ t. taken_from (get text_cmp c.args.gathered.now.files c.in-Some.path) (own_text told c.in-Some.path t)) c.content_of-content.ensures)
    c.in_ok-file.ensures.others c.in_ok-skip-in-Err.ensures.files c.in_ok-skip-in-Err.ensures.skips holds
