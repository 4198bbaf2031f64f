use Rattle.std.proofs.Common.{◌∙◌, sym}
use Rattle.istanbul_rules.proofs.Comments.{numbered_here}
use Rattle.istanbul_rules.proofs.ignoring.next_here.Goals as goal

pub returns-then-starts_with-2 : goal.returns-then-starts_with-2
returns-then-starts_with-2 c =
    numbered_here c.args.bytes.now c.number_before_end.result (sym c.starts_with.ensures.value ∙ c.if-starts_with.false) (sym c.starts_with-2.ensures.value ∙ c.if-starts_with-2.true) c.number_before_end.ensures
