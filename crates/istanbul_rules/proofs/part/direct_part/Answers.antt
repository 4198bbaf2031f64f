use Rattle.std.proofs.Common.{ap, ◌∙◌}
use Rattle.std.specs.Prelude.{map, Some}
use Rattle.istanbul_rules.specs.Parts.{direct_part, direct_line}
use Rattle.istanbul_rules.proofs.part.direct_part.Goals as goal

pub returns : goal.returns
unfolding direct_part
returns c =
    let ranges = c.as_slice.ensures ∙ c.in_ok-ranges.ensures in
    let lines = c.in_ok-lines.ensures ∙ ap (λ rs. map (λ span. Some (direct_line rs span)) c.args.table.now.spans) ranges in
    let branches = c.in_ok-branches.ensures in
    let functions = c.in_ok-functions.ensures in
    (λ i. record { lines = lines i; branches = branches i; functions = functions i })
