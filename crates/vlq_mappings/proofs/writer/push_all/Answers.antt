use Rattle.std.proofs.Common.{◌∙◌}
use Rattle.std.proofs.lemmas.Result.{on_ok_weaker}
use Rattle.vlq_mappings.proofs.Texts.{no_lines, all_lines}
use Rattle.vlq_mappings.proofs.writer.push_all.Goals as goal

pub returns-in-empty : goal.returns-in-empty
returns-in-empty c = no_lines _ c.args.lines.now c.in-empty.len_below

pub returns-in_ok-last-in-len1-up : goal.returns-in_ok-last-in-len1-up
returns-in_ok-last-in-len1-up c =
    on_ok_weaker c.push_lines.result
    (all_lines _ _ _ c.in_ok-last-in-len1-up.last c.args.lines.now c.as_slice.result.now c.first-item.result c.in-len1-up.len_at_least (c.as_slice.ensures ∙ c.first-item.is)
    c.in_ok-last-in-len1-up.ensures.text c.in_ok-last-in-len1-up.ensures.last) c.push_lines.ensures
