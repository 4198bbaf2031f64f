use Rattle.std.proofs.Common.{sym, ap, ◌∙◌}
use Rattle.std.proofs.lemmas.Result.{err_from_is_err_and}
use Rattle.vlq_mappings.specs.Faults.{goes_on}
use Rattle.vlq_mappings.specs.Mappings.{segment_of}
use Rattle.vlq_mappings.specs.Pieces.{piece_at}
use Rattle.vlq_mappings.proofs.Moves.{near_segment}
use Rattle.vlq_mappings.proofs.segments.read_segment.Goals as goal

pub returns-in_err-fields-clause-segment : goal.returns-in_err-fields-clause-segment
returns-in_err-fields-clause-segment c =
    let p = err_from_is_err_and c.from_residual.result c.from_residual.ensures.1 in
    rw (p.1, p.2) (sym (near_segment c.args.from c.args.last (piece_at c.args.bytes.now c.args.from)) ∙ c.in_err-fields.ensures.values c.args.last)

pub returns-in_err-segment-clause-segment : goal.returns-in_err-segment-clause-segment
returns-in_err-segment-clause-segment c =
    let p = err_from_is_err_and c.from_residual-in_err-segment.result c.from_residual-in_err-segment.ensures.1 in
    rw (p.1, p.2)
    (sym (near_segment c.args.from c.args.last (piece_at c.args.bytes.now c.args.from))
    ∙ ap (λ r. goes_on r (segment_of c.args.from c.args.last)) c.in_ok-fields.ensures.values ∙ c.in_err-segment.ensures c.args.from)

pub returns-clause-segment : goal.returns-clause-segment
returns-clause-segment c =
    sym (near_segment c.args.from c.args.last (piece_at c.args.bytes.now c.args.from))
    ∙ ap (λ r. goes_on r (segment_of c.args.from c.args.last)) c.in_ok-fields.ensures.values ∙ c.in_ok-segment.ensures c.args.from
