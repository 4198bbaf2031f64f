use Rattle.std.proofs.Common.{◌≡◌}
use Rattle.json_pieces.specs.Pieces.{out_at, piece}
use Rattle.json_pieces.proofs.Steps.{Walked}
use Rattle.json_pieces.proofs.pieces.finish.Given as goal

abbrev pub invariant-loop-piece : goal.invariant-loop-piece
invariant-loop-piece g l =
    (l.piece-iterator.size ≡ piece) × Walked l.text l.piece-iterator.rest.now
    (out_at (g.O.Sink.held l.initial.out) (g.O.Sink.longest l.initial.out) (g.O.Sink.faults l.initial.out))
    (out_at (g.O.Sink.held l.out) (g.O.Sink.longest l.out) (g.O.Sink.faults l.out))
