use Rattle.std.proofs.Common.{◌≡◌, ◌+◌, ◌<◌, false, length, sym, ap, ◌∙◌, ◌++◌, ◌∷◌, [], arith, get_or}
use Rattle.std.proofs.lemmas.Result.{err_from_is_err_and}
use Rattle.std.proofs.lemmas.Bool.Decides.{nat_tests}
use Rattle.vlq_mappings.specs.Faults.{goes_on}
use Rattle.vlq_mappings.specs.Mappings.{is_comma}
use Rattle.vlq_mappings.specs.Pieces.{is_end, piece_at, line_at, line_segments, with_front}
use Rattle.vlq_mappings.proofs.Groups.{piece_more}
use Rattle.vlq_mappings.proofs.Lines.{piece_here, segment_fault, segment_read, front_more, fails_with, length-rest_of_line}
use Rattle.vlq_mappings.proofs.reader.read_line.Goals as goal

pub returns-in_err-segment-clause-segments : goal.returns-in_err-segment-clause-segments
returns-in_err-segment-clause-segments c =
    let p = err_from_is_err_and c.from_residual.result c.from_residual.ensures.1 in
    let text = c.args.bytes.now in
    let at = c.pieces.at in
    let whole : is_end (line_at text at) ≡ false = cc in
    let other : is_comma (get_or text at 0) ≡ false = grind (arith, nat_tests, c.if-bytes-at-eq44.false) in
    let some = piece_here text at whole other in
    rw (p.1, p.2)
    (fails_with _ _ (sym c.pieces.invariant.same
    ∙ ap (λ r. goes_on r (with_front c.pieces.segments)) (segment_fault text at c.pieces.last _ some c.in_err-segment.ensures.segment)))

pub pieces-smaller : goal.pieces-smaller
pieces-smaller c =
    let text = c.args.bytes.now in
    let at = c.pieces.at in
    let whole : is_end (line_at text at) ≡ false = cc in
    let other : is_comma (get_or text at 0) ≡ false = grind (arith, nat_tests, c.if-bytes-at-eq44.false) in
    let some = piece_here text at whole other in
    let e : c.in_ok-segment.end ≡ at + length (piece_at text at) = c.in_ok-segment.ensures.end in
    let more = ap length (piece_more text at some) in
    let rest = length-rest_of_line text at in
    let goal' : length (line_at text (at + length (piece_at text at))) < length (line_at text at) = omega arith in
    rw e goal'

pub pieces-preserved : goal.pieces-preserved
pieces-preserved c =
    let text = c.args.bytes.now in
    let at = c.pieces.at in
    let whole : is_end (line_at text at) ≡ false = cc in
    let other : is_comma (get_or text at 0) ≡ false = grind (arith, nat_tests, c.if-bytes-at-eq44.false) in
    let some = piece_here text at whole other in
    let e : c.in_ok-segment.end ≡ at + length (piece_at text at) = c.in_ok-segment.ensures.end in
    let pushed : c.push.new.self ≡ c.pieces.segments ++ c.in_ok-segment.segment ∷ [] = c.in_ok-push.ensures.ok in
    let rest = length-rest_of_line text at in
    let read = segment_read text at c.pieces.last c.in_ok-segment.segment c.in_ok-segment.behind some c.in_ok-segment.ensures.segment in
    record {
      same =
          rw (e, pushed)
          (sym (front_more (line_segments text (at + length (piece_at text at)) c.in_ok-segment.behind) c.pieces.segments c.in_ok-segment.segment)
          ∙ ap (λ r. goes_on r (with_front c.pieces.segments)) (sym read)
          ∙ c.pieces.invariant.same);
      end = rw e (rest ∙ c.pieces.invariant.end);
    }
