use Rattle.std.proofs.Common.{None, sym, ◌∙◌}
use Rattle.source_maps.specs.declared.map.MapSegment.{MapSegment}
use Rattle.source_maps.proofs.Moved.{near_next, said_ok}
use Rattle.source_maps.proofs.moving.all_near.Goals as goal

abbrev no_segment : MapSegment
no_segment = record { line = 0; column = 0; origin = None }

pub loop-segment-preserved : goal.loop-segment-preserved
loop-segment-preserved c =
    near_next c.args.start c.args.sources c.args.names c.args.k c.args.segments.now c.loop-segment.segment-index no_segment c.loop-segment.all c.push.new.self c.in-Some.next _
    c.loop-segment-test.true c.in-Some.ensures (said_ok c.push.result _ c.push.ensures.ok (sym c.is_err.ensures.value ∙ c.if-is_err.false)) c.loop-segment.invariant
