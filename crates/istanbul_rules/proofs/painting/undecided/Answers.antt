use Rattle.std.proofs.Common.{◌≡◌, [], length, get_or, sym, ap, ◌∙◌}
use Rattle.istanbul_rules.proofs.Painted.{step-over, step-kept, step-beside, is_decided-more, nothing}
use Rattle.istanbul_rules.proofs.painting.undecided.Goals as goal
use Rattle.istanbul_rules.proofs.painting.undecided.Goals.{then-goes_over, else-goes_over+then-goes_over-2+in_ok-push, else-goes_over+else-goes_over-2}

pub loop-range-preserved : goal.loop-range-preserved
loop-range-preserved c =
    elim c.if-goes_over.branch [
      | then-goes_over w ↦
          let none : c.if-goes_over.left.items ≡ [] = ap (λ v. v.items) w.left-is ∙ w.clear.ensures.items in
          record {
            same = step-over c.args.first c.args.last c.loop-range.count c.args.base c.loop-range.range-index c.loop-range.left.items c.args.ranges.now c.loop-range-test.true
                (sym c.goes_over.ensures ∙ w.if-goes_over.true) c.loop-range.invariant.same c.if-goes_over.count c.if-goes_over.left.items w.count-is none;
            decided = λ p q. ap length none;
          }
      | else-goes_over+then-goes_over-2+in_ok-push w ↦
          record {
            same = step-kept c.args.first c.args.last c.loop-range.count c.args.base c.loop-range.range-index c.loop-range.left.items c.args.ranges.now c.loop-range-test.true
                c.loop-range.invariant.same c.if-goes_over.count c.if-goes_over.left.items w.count-is (ap (λ v. v.items) w.left-is ∙ w.in_ok-push.ensures.items);
            decided = is_decided-more c.args.first c.args.last (get_or c.args.ranges.now c.loop-range.range-index nothing) c.if-goes_over.left.items (sym c.goes_over.ensures ∙ w.if-goes_over.false) (sym w.goes_over-else-goes_over.ensures ∙ w.if-goes_over-2.true);
          }
      | else-goes_over+else-goes_over-2 w ↦
          let left_is = ap (λ v. v.items) w.left-is in
          record {
            same = step-beside c.args.first c.args.last c.loop-range.count c.args.base c.loop-range.range-index c.loop-range.left.items c.args.ranges.now c.loop-range-test.true
                (sym w.goes_over-else-goes_over.ensures ∙ w.if-goes_over-2.false) c.loop-range.invariant.same c.if-goes_over.count c.if-goes_over.left.items w.count-is left_is;
            decided = λ p q. ap length left_is ∙ c.loop-range.invariant.decided p q;
          }
    ]
