use Rattle.std.proofs.lemmas.Result.{on_ok_weaker}
use Rattle.vlq_mappings.proofs.Texts.{whole_line}
use Rattle.vlq_mappings.proofs.writer.push_line.Goals as goal

pub returns-in_ok-last-in-len1-up-clause-text : goal.returns-in_ok-last-in-len1-up-clause-text
returns-in_ok-last-in-len1-up-clause-text c =
    on_ok_weaker c.push_segments.result
    (whole_line _ _ _ c.args.last c.in_ok-last-in-len1-up.last c.args.line.now _ c.in-len1-up.len_at_least c.in_ok-last-in-len1-up.ensures.text
    c.in_ok-last-in-len1-up.ensures.last) c.push_segments.ensures.text
