use Rattle.std.proofs.Common.{take}
use Rattle.source_remap.specs.Groups.{AreBySource}
use Rattle.istanbul_rules.specs.Remapped.{span_from, flagged}
use Rattle.istanbul_rules.proofs.remapped.branch_spans.Given as goal

abbrev pub invariant-loop-function : goal.invariant-loop-function
invariant-loop-function l = AreBySource (span_from l.generated l.map.segments) (flagged (take l.function-index l.functions)) l.found
