use Rattle.std.proofs.Common.{ap, ◌∙◌, arith}
use Rattle.std.specs.Prelude.{map, Some}
use Rattle.istanbul_rules.specs.Painting.{count_over}
use Rattle.istanbul_rules.proofs.Lists.{walked_all}
use Rattle.istanbul_rules.proofs.Lines.{direct_counts}
use Rattle.istanbul_rules.proofs.counting.direct_lines.Goals as goal

pub returns : goal.returns
returns c =
    let a = c.in_ok-counts.ensures in
    let b = c.deref.ensures.value in
    let d = c.in_ok-stretches.ensures.value in
    let e = c.deref-count-items.ensures.value in
    let f = walked_all Some c.deref-count-items.result.now c.loop-count.count-index c.loop-count.lines _ (omega arith) c.loop-count.invariant in
    let counts = a ∙ (λ i. map (count_over 1 c.args.ranges.now) (b i)) ∙ ap (map (count_over 1 c.args.ranges.now)) d in
    f ∙ ap (map Some) (e ∙ counts) ∙ direct_counts c.args.ranges.now c.args.table.now.spans
