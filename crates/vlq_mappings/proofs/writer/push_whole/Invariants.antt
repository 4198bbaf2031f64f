use Rattle.std.proofs.Common.{◌++◌}
use Rattle.std.specs.Prelude.{string_bytes}
use Rattle.vlq_mappings.specs.Written.{spelled}
use Rattle.vlq_mappings.proofs.Spelled.{Left}
use Rattle.vlq_mappings.proofs.writer.push_whole.Given as goal

abbrev pub invariant-groups : goal.invariant-groups
invariant-groups l = Left (string_bytes l.text) l.whole (string_bytes l.fn.text ++ spelled l.fn.whole)

abbrev pub decreases-groups : goal.decreases-groups
decreases-groups l = l.whole
