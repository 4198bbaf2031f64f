use Rattle.std.proofs.Common.{take}
use Rattle.source_remap.specs.Groups.{AreBySource}
use Rattle.istanbul_rules.specs.Remapped.{named_from}
use Rattle.istanbul_rules.proofs.remapped.named_spans.Given as goal

abbrev pub invariant-loop-function : goal.invariant-loop-function
invariant-loop-function l = AreBySource (named_from l.generated l.map.segments) (take l.function-index l.functions) l.found
