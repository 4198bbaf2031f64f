use Rattle.std.proofs.Common.{get_or, ap, ◌∙◌}
use Rattle.std.specs.Prelude.{Some}
use Rattle.istanbul_rules.proofs.Greatest.{first_greatest, next_greatest}
use Rattle.istanbul_rules.proofs.Offsets.{found_count}
use Rattle.istanbul_rules.proofs.counting.greatest_count.Goals as goal
use Rattle.istanbul_rules.proofs.counting.greatest_count.Goals.{in-Some, in-None}

pub loop-place-preserved : goal.loop-place-preserved
loop-place-preserved c =
    λ count_of is.
    let n = get_or c.args.counts.now c.first_at.result 0 in
    let count = found_count count_of c.args.offsets.now c.args.counts.now c.first_at.result (get_or c.args.places.now c.loop-place.place-index 0) is c.first_at.ensures.below (c.first_at.ensures.found 0) in
    elim c.match-most.branch [
      | in-Some w ↦ next_greatest count_of c.args.places.now c.loop-place.place-index n w.in-Some.other c.loop-place.most c.match-most.most _ c.loop-place-test.true count
          w.in-Some.is (w.most-is ∙ ap Some w.max.ensures) (c.loop-place.invariant count_of is)
      | in-None w ↦ first_greatest count_of c.args.places.now c.loop-place.place-index n c.loop-place.most c.match-most.most _ c.loop-place-test.true count
          w.in-None.is w.most-is (c.loop-place.invariant count_of is)
    ]
