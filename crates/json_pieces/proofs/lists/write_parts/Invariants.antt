use Rattle.std.proofs.Common.{false, nat_lt, drop}
use Rattle.json_pieces.specs.Joined.{joined}
use Rattle.json_pieces.specs.Pieces.{out_at}
use Rattle.json_pieces.proofs.Steps.{Waits}
use Rattle.json_pieces.proofs.lists.write_parts.Given as goal

abbrev pub invariant-loop-place : goal.invariant-loop-place
invariant-loop-place g l =
    Waits (joined g.T.Part.text_at false 0 l.parts) (joined g.T.Part.text_at (nat_lt 0 l.place) l.place (drop l.place l.parts))
    (out_at (g.O.Sink.held l.initial.out) (g.O.Sink.longest l.initial.out) (g.O.Sink.faults l.initial.out))
    (out_at (g.O.Sink.held l.out) (g.O.Sink.longest l.out) (g.O.Sink.faults l.out))
    l.initial.text.items l.text.items
