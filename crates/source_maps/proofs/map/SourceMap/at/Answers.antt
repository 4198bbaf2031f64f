use Rattle.std.proofs.Common.{◌-◌, arith, slice_index_or, None, refl}
use Rattle.std.specs.Prelude.{Some}
use Rattle.source_maps.specs.declared.map.MapSegment.{MapSegment}
use Rattle.source_maps.proofs.Searched.{found-none, found-earlier, found-here, of_map, sorted_of}
use Rattle.source_maps.proofs.map.SourceMap.at.Goals as goal

abbrev no_segment : MapSegment
no_segment = record { line = 0; column = 0; origin = None }

pub returns-then-end-eq0-clause-segment : goal.returns-then-end-eq0-clause-segment
returns-then-end-eq0-clause-segment c =
    (of_map _ _ c.args.line c.args.column None c.segments-segments.ensures.value
    (found-none c.args.line c.args.column c.segments-segments.result.now c.end_of_spot-end.result c.end_of_spot-end.ensures.parted (omega arith))).segment

pub returns-then-end-eq0-clause-none : goal.returns-then-end-eq0-clause-none
returns-then-end-eq0-clause-none c =
    (of_map _ _ c.args.line c.args.column None c.segments-segments.ensures.value
    (found-none c.args.line c.args.column c.segments-segments.result.now c.end_of_spot-end.result c.end_of_spot-end.ensures.parted (omega arith))).none

pub returns-then-last-line-clause-segment : goal.returns-then-last-line-clause-segment
returns-then-last-line-clause-segment c =
    let up = sorted_of c.segments-segments.result.now c.args.self.now.segments c.segments-segments.ensures.value c.segments-segments.ensures.kept.ordered in
    (of_map _ _ c.args.line c.args.column (Some (slice_index_or c.segments-segments.result.now (c.end_of_spot-end.result - 1) no_segment)) c.segments-segments.ensures.value
    (found-here c.args.line c.args.column c.segments-segments.result.now c.end_of_spot-end.result no_segment _ up c.end_of_spot-end.ensures.parted c.end_of_spot-end.ensures.bound
    c.if-end-eq0.false refl c.if-last-line.true)).segment

pub returns-then-last-line-clause-none : goal.returns-then-last-line-clause-none
returns-then-last-line-clause-none c =
    let up = sorted_of c.segments-segments.result.now c.args.self.now.segments c.segments-segments.ensures.value c.segments-segments.ensures.kept.ordered in
    (of_map _ _ c.args.line c.args.column (Some (slice_index_or c.segments-segments.result.now (c.end_of_spot-end.result - 1) no_segment)) c.segments-segments.ensures.value
    (found-here c.args.line c.args.column c.segments-segments.result.now c.end_of_spot-end.result no_segment _ up c.end_of_spot-end.ensures.parted c.end_of_spot-end.ensures.bound
    c.if-end-eq0.false refl c.if-last-line.true)).none

pub returns-else-last-line-clause-segment : goal.returns-else-last-line-clause-segment
returns-else-last-line-clause-segment c =
    let up = sorted_of c.segments-segments.result.now c.args.self.now.segments c.segments-segments.ensures.value c.segments-segments.ensures.kept.ordered in
    (of_map _ _ c.args.line c.args.column None c.segments-segments.ensures.value
    (found-earlier c.args.line c.args.column c.segments-segments.result.now c.end_of_spot-end.result no_segment _ up c.end_of_spot-end.ensures.parted c.end_of_spot-end.ensures.bound
    c.if-end-eq0.false refl c.if-last-line.false)).segment

pub returns-else-last-line-clause-none : goal.returns-else-last-line-clause-none
returns-else-last-line-clause-none c =
    let up = sorted_of c.segments-segments.result.now c.args.self.now.segments c.segments-segments.ensures.value c.segments-segments.ensures.kept.ordered in
    (of_map _ _ c.args.line c.args.column None c.segments-segments.ensures.value
    (found-earlier c.args.line c.args.column c.segments-segments.result.now c.end_of_spot-end.result no_segment _ up c.end_of_spot-end.ensures.parted c.end_of_spot-end.ensures.bound
    c.if-end-eq0.false refl c.if-last-line.false)).none
