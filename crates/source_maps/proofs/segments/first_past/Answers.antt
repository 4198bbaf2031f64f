use Rattle.std.proofs.Common.{None, sym, ap, ◌∙◌}
use Rattle.std.specs.Prelude.{not}
use Rattle.source_maps.specs.declared.map.MapSegment.{MapSegment}
use Rattle.source_maps.specs.Kept.{is_below}
use Rattle.source_maps.proofs.Read.{found_first, found_no}
use Rattle.source_maps.proofs.segments.first_past.Goals as goal

abbrev no_segment : MapSegment
no_segment = record { line = 0; column = 0; origin = None }

pub returns-then-not-is_below : goal.returns-then-not-is_below
returns-then-not-is_below c =
    found_first (λ s. not (is_below c.args.sources c.args.names s)) c.args.segments.now c.loop-k.k no_segment c.loop-k-test.true
    (ap not (sym c.is_below.ensures ∙ c.if-not-is_below.true)) c.loop-k.invariant

pub returns : goal.returns
returns c = found_no (λ s. not (is_below c.args.sources c.args.names s)) c.args.segments.now c.loop-k.k c.loop-k-test.false c.loop-k.invariant
