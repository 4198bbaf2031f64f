use Rattle.std.proofs.Common.{◌∙◌}
use Rattle.std.proofs.lemmas.Result.{err_from_is_err_and}
use Rattle.vlq_mappings.specs.Mappings.{segment_of}
use Rattle.vlq_mappings.proofs.Groups.{behind_value}
use Rattle.vlq_mappings.proofs.segments.read_fields.Goals as goal

pub returns-in_err-origin-clause-values : goal.returns-in_err-origin-clause-values
returns-in_err-origin-clause-values c =
    let p = err_from_is_err_and c.from_residual-in_err-origin.result c.from_residual-in_err-origin.ensures.1 in
    rw (p.1, p.2)
    (λ last. behind_value _ _ _ (segment_of c.args.from last) c.in_ok-column.ensures.value ∙ c.in_err-origin.ensures.values last c.in_ok-column.column)
