use Rattle.std.specs.Prelude.{codes}
use Rattle.std.proofs.lemmas.Str.Pattern.{contains_text}
use Rattle.istanbul_rules.proofs.Comments.{contains_is}
use Rattle.istanbul_rules.proofs.ignoring.has_stop.Goals as goal

pub returns : goal.returns
returns c =
    contains_is c.contains.result (codes "/* c8 ignore stop */") c.args.line.now
    (contains_text c.contains.result (codes "/* c8 ignore stop */") c.args.line.now c.contains.ensures.cases)
