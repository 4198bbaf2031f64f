use Rattle.std.proofs.Common.{ap, ◌∙◌, arith}
use Rattle.std.specs.Prelude.{Err}
use Rattle.std.proofs.lemmas.Result.{err_from_is_err_and}
use Rattle.json_pieces.proofs.Steps.{walked-more, walked-stops, walked-all}
use Rattle.json_pieces.proofs.pieces.finish.Goals as goal

pub loop-piece-preserved : goal.loop-piece-preserved
loop-piece-preserved g c =
    let s = c.in-Some.ensures.steps in (
      s.0 ∙ c.loop-piece.invariant.0,
      walked-more c.args.text.now c.in-Some.piece.now c.loop-piece.piece-iterator.rest.now c.next.new.self.rest.now _ _ _
          c.loop-piece.invariant.1 s.1.0 (omega (arith, c.loop-piece.invariant.0, s.1.1)) c.in_ok-write.ensures.ok c.in_ok-write.ensures.longest c.in_ok-write.ensures.cause.kept,
    )

pub returns-in_err-write : goal.returns-in_err-write
returns-in_err-write g c =
    let s = c.in-Some.ensures.steps in
    let e = c.in_err-write.ensures in
    let p = err_from_is_err_and c.from_residual.result c.from_residual.ensures.1 in
    rw (p.1, p.2)
    (walked-stops c.args.text.now c.in-Some.piece.now c.loop-piece.piece-iterator.rest.now c.next.new.self.rest.now _ _ _ c.in_err-write.field-0.0
    c.loop-piece.invariant.1 s.1.0 (omega (arith, c.loop-piece.invariant.0, s.1.1)) (λ f. e.failed (ap Err f)) (λ f. e.memory (ap Err f)) e.longest e.cause)

pub returns : goal.returns
returns g c =
    walked-all c.args.text.now c.loop-piece.piece-iterator.rest.now _ _ c.loop-piece.invariant.1 c.in-None.ensures.steps.1.0
