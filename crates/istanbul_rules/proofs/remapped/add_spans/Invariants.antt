use Rattle.std.proofs.Common.{List, ◌++◌, take}
use Rattle.cov_model.specs.declared.report.Range.{Range}
use Rattle.source_remap.specs.Groups.{AreBySource}
use Rattle.istanbul_rules.specs.Remapped.{span_from}
use Rattle.istanbul_rules.proofs.remapped.add_spans.Given as goal

-- the spans of the ranges so far stand behind the earlier ones
abbrev pub invariant-loop-range : goal.invariant-loop-range
invariant-loop-range l =
    (earlier : List Range) → AreBySource (span_from l.generated l.map.segments) earlier l.fn.found
    → AreBySource (span_from l.generated l.map.segments) (earlier ++ take l.range-index l.ranges) l.found
