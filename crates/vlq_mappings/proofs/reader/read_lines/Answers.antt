use Rattle.std.proofs.Common.{◌≡◌, drop, sym, ap, ◌∙◌, ◌++◌, ◌∷◌, [], arith}
use Rattle.std.proofs.lemmas.Result.{err_from_is_err_and}
use Rattle.std.proofs.lemmas.List.{length_push}
use Rattle.vlq_mappings.specs.Faults.{goes_on}
use Rattle.vlq_mappings.specs.Pieces.{lines_behind, with_lines}
use Rattle.vlq_mappings.proofs.Lines.{fails_on, lines_start, start_fault, next_read, next_fault, lines_over, lines_more}
use Rattle.vlq_mappings.proofs.Laws.{near_of}
use Rattle.vlq_mappings.proofs.reader.read_lines.Goals as goal

pub returns-in_err-line : goal.returns-in_err-line
returns-in_err-line c =
    let p = err_from_is_err_and c.from_residual.result c.from_residual.ensures.1 in
    let e = c.as_bytes-bytes.ensures.value in
    rw (p.1, p.2) (fails_on _ _ _ (λ d h. start_fault c.args.text.now d (rw (← e) h)) c.in_err-line.ensures.segments)

pub lines-init : goal.lines-init
lines-init c =
    let text = c.args.text.now in
    let e : c.as_bytes-bytes.result.now ≡ text = c.as_bytes-bytes.ensures.value in
    let pushed : c.push.new.self ≡ c.in_ok-line.line ∷ [] = c.in_ok-push.ensures.ok ∙ ap (λ xs. xs ++ c.in_ok-line.line ∷ []) c.new-lines.ensures in
    record {
      same = rw (e, pushed) (sym (lines_start text c.in_ok-line.line c.in_ok-line.last c.in_ok-line.at (rw (← e) c.in_ok-line.ensures.segments) (rw (← e) c.in_ok-line.ensures.end)));
      some = rw pushed (omega arith);
    }

pub returns-in_err-line-2 : goal.returns-in_err-line-2
returns-in_err-line-2 c =
    let p = err_from_is_err_and c.from_residual-in_err-line-2.result c.from_residual-in_err-line-2.ensures.1 in
    let text = c.as_bytes-bytes.result.now in
    rw (p.1, p.2)
    (fails_on _ _ _
    (λ d h. sym c.lines.invariant.same ∙ ap (λ r. goes_on r (with_lines c.lines.lines)) (next_fault text c.lines.at c.lines.last d c.lines-test.true h))
    c.in_err-line-2.ensures.segments)

pub lines-preserved : goal.lines-preserved
lines-preserved c =
    let text = c.as_bytes-bytes.result.now in
    let pushed : c.push-in-lines.new.self ≡ c.lines.lines ++ c.in_ok-line-2.line ∷ [] = c.in_ok-push-2.ensures.ok in
    let read = next_read text c.lines.at c.lines.last c.in_ok-line-2.line c.in_ok-line-2.behind c.in_ok-line-2.end c.lines-test.true c.in_ok-line-2.ensures.segments c.in_ok-line-2.ensures.end in
    let longer = length_push c.lines.lines c.in_ok-line-2.line in
    record {
      same =
          rw pushed
          (sym (lines_more (lines_behind c.in_ok-line-2.end c.in_ok-line-2.behind (drop c.in_ok-line-2.end text)) c.lines.lines c.in_ok-line-2.line)
          ∙ ap (λ r. goes_on r (with_lines c.lines.lines)) (sym read) ∙ c.lines.invariant.same);
      some = rw pushed (omega arith);
    }

pub new-requires : goal.new-requires
new-requires c =
    let text = c.as_bytes-bytes.result.now in
    near_of c.args.text.now c.lines.lines c.lines.invariant.some (sym c.lines.invariant.same ∙ lines_over text c.lines.at c.lines.last c.lines.lines c.lines-test.false)
