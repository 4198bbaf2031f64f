use Rattle.std.proofs.Common.{◌++◌, ◌+◌, take, sym, ◌∙◌, subst}
use Rattle.source_remap.specs.Groups.{AreBySource}
use Rattle.istanbul_rules.specs.declared.remapped.CountedSpan.{CountedSpan}
use Rattle.istanbul_rules.specs.Remapped.{span_of, span_from}
use Rattle.istanbul_rules.proofs.Spans.{no_range, from-put, from-same}
use Rattle.istanbul_rules.proofs.remapped.add_spans.Goals as goal
use Rattle.istanbul_rules.proofs.remapped.add_spans.Goals.{in-Some+in_ok-put, in_default}

pub loop-range-preserved : goal.loop-range-preserved
loop-range-preserved c =
    λ earlier start.
    let made = span_of c.args.generated.now c.args.map.now.segments in
    let all = earlier ++ take (c.loop-range.range-index + 1) c.args.ranges.now in
    elim c.match-span_of.branch [
      | in-Some+in_ok-put w ↦
          subst (AreBySource (span_from c.args.generated.now c.args.map.now.segments) all) (sym w.found-is)
          (from-put (λ (s : CountedSpan). s.span.source) made earlier c.args.ranges.now c.loop-range.range-index no_range w.in-Some.counted c.loop-range.found w.put.new.self
          c.loop-range-test.true w.in_ok-put.ensures (sym c.span_of.ensures ∙ w.in-Some.is) (c.loop-range.invariant earlier start))
      | in_default w ↦
          subst (AreBySource (span_from c.args.generated.now c.args.map.now.segments) all) (sym w.found-is)
          (from-same (λ (s : CountedSpan). s.span.source) made earlier c.args.ranges.now c.loop-range.range-index no_range c.loop-range.found
          c.loop-range-test.true (sym c.span_of.ensures ∙ w.in_default.is) (c.loop-range.invariant earlier start))
    ]
