use Rattle.std.proofs.Common.{◌≡◌, ap, ◌∙◌, subst}
use Rattle.std.specs.Prelude.{map, IfOk}
use Rattle.istanbul_rules.specs.Painting.{count_over}
use Rattle.istanbul_rules.proofs.Offsets.{unit_counts}
use Rattle.istanbul_rules.proofs.counting.counts_at.Goals as goal

pub returns : goal.returns
returns c =
    subst (λ all. IfOk c.counts_of.result (λ counts. counts.items ≡ all))
    (ap (map (count_over 1 c.args.ranges.now)) (c.deref.ensures.value ∙ c.in_ok-stretches.ensures.value) ∙ unit_counts c.args.ranges.now c.args.offsets.now)
    c.counts_of.ensures
