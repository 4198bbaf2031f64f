use Rattle.std.proofs.Common.{length}
use Rattle.vlq_mappings.specs.Pieces.{piece_at, near_values}
use Rattle.vlq_mappings.proofs.Groups.{Passes}
use Rattle.vlq_mappings.proofs.segments.pass_values.Given as goal

abbrev pub invariant-values : goal.invariant-values
invariant-values l = Passes (near_values l.fn.from (piece_at l.bytes l.fn.from)) (near_values l.at (piece_at l.bytes l.at))

abbrev pub decreases-values : goal.decreases-values
decreases-values l = length (piece_at l.bytes l.at)
