use Rattle.std.proofs.Common.{◌∙◌}
use Rattle.utf16_lines.proofs.Found.{line-within}
use Rattle.utf16_lines.proofs.LineTable.line.Goals as goal

pub returns-clause-within : goal.returns-clause-within
returns-clause-within c =
    line-within c.self.inside.spans c.self.inside.units c.args.i c.args.self.now c.copied.result c.self.view_is c.self.invariant (c.copied.ensures ∙ c.get.ensures.value)
