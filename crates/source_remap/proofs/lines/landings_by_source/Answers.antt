use Rattle.std.proofs.Common.{sym, ◌∙◌, ◌+◌, take, subst}
use Rattle.source_remap.specs.Origins.{landing_of}
use Rattle.source_remap.specs.Groups.{AreBySource}
use Rattle.source_remap.proofs.Grouped.{no_segment, landed-none, landed-past, landed-more}
use Rattle.source_remap.proofs.lines.landings_by_source.Goals as goal
use Rattle.source_remap.proofs.lines.landings_by_source.Goals.{in-Some-landing_of+in_ok-put, in_default-landing_of}

pub loop-segment-preserved-in_default : goal.loop-segment-preserved-in_default
loop-segment-preserved-in_default c =
    landed-none c.args.generated.now c.segments-segments.result.now c.loop-segment.segment-index no_segment c.loop-segment.found c.loop-segment-test.true c.in_default.is
    c.loop-segment.invariant

pub loop-segment-preserved : goal.loop-segment-preserved
loop-segment-preserved c =
    let all = c.segments-segments.result.now in
    let at = c.loop-segment.segment-index in
    elim c.match-landing_of.branch [
      | in-Some-landing_of+in_ok-put w ↦
          subst (AreBySource (landing_of c.args.generated.now) (take (at + 1) all)) (sym w.found-is)
          (landed-more c.args.generated.now all at no_segment c.in-Some.origin w.in-Some-landing_of.landing c.loop-segment.found w.put.new.self c.loop-segment-test.true c.in-Some.is
          (sym c.landing_of.ensures ∙ w.in-Some-landing_of.is) w.in_ok-put.ensures c.loop-segment.invariant)
      | in_default-landing_of w ↦
          subst (AreBySource (landing_of c.args.generated.now) (take (at + 1) all)) (sym w.found-is)
          (landed-past c.args.generated.now all at no_segment c.in-Some.origin c.loop-segment.found c.loop-segment-test.true c.in-Some.is
          (sym c.landing_of.ensures ∙ w.in_default-landing_of.is) c.loop-segment.invariant)
    ]
