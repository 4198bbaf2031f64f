use Rattle.std.proofs.Common.{◌∷◌, ◌∙◌}
use Rattle.std.proofs.lemmas.Result.{err_from_is_err_and}
use Rattle.vlq_mappings.specs.Mappings.{segment_of}
use Rattle.vlq_mappings.proofs.Groups.{behind_value}
use Rattle.vlq_mappings.proofs.segments.read_origin.Goals as goal

pub returns-in_err-name-clause-values : goal.returns-in_err-name-clause-values
returns-in_err-name-clause-values c =
    let p = err_from_is_err_and c.from_residual-in_err-name.result c.from_residual-in_err-name.ensures.1 in
    let from = c.args.from in
    rw (p.1, p.2)
    (λ last first.
    behind_value _ _ _ (λ vs. segment_of from last (first ∷ vs)) c.in_ok-source.ensures.value
    ∙ behind_value _ _ _ (λ vs. segment_of from last (first ∷ c.in_ok-source.source ∷ vs)) c.in_ok-line.ensures.value
    ∙ behind_value _ _ _ (λ vs. segment_of from last (first ∷ c.in_ok-source.source ∷ c.in_ok-line.line ∷ vs)) c.in_ok-column.ensures.value
    ∙ c.in_err-name.ensures.values last first c.in_ok-source.source c.in_ok-line.line c.in_ok-column.column)
