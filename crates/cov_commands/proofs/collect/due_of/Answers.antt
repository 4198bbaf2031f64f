use Rattle.std.proofs.Common.{ap, ap₂, ◌∙◌, map}
use Rattle.std.specs.Prelude.{string_bytes}
use Rattle.std.specs.List.{list_any}
use Rattle.cov_commands.specs.Collect.{texts_in}
use Rattle.cov_commands.specs.Due.{refused_or_done}
use Rattle.cov_commands.specs.Lines.{answer_lines, is_refusal}
use Rattle.cov_commands.proofs.Collects.{owes-collect}
use Rattle.cov_commands.proofs.collect.due_of.Goals as goal

pub returns-clause-due : goal.returns-clause-due
returns-clause-due g c =
    let all = c.in_ok-all.all in
    λ folder files h.
    owes-collect folder files all _ (c.in_ok-all.ensures (texts_in folder files) h.texts)
    (λ held stands. c.in_ok-out.ensures held stands)
    (c.from_vec.ensures ∙ c.in_ok-err.ensures ∙ ap₂ answer_lines (ap (map string_bytes) c.as_slice.ensures.value ∙ h.paths) c.as_slice-2.ensures)
    (c.refused_or_done-ended.ensures ∙ ap refused_or_done (c.has_refusal.ensures ∙ ap (list_any is_refusal) c.as_slice-3.ensures))
