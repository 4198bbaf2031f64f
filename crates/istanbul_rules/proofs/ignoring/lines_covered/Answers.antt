use Rattle.std.proofs.Common.{◌∙◌, ap, arith}
use Rattle.std.specs.Prelude.{max}
use Rattle.istanbul_rules.proofs.Comments.{covered_more, covered_same}
use Rattle.istanbul_rules.proofs.ignoring.lines_covered.Goals as goal
use Rattle.istanbul_rules.proofs.ignoring.lines_covered.Goals.{in-Some, in_default}

pub loop-at-preserved : goal.loop-at-preserved
loop-at-preserved c =
    elim c.match-next_here.branch [
      | in-Some w ↦
          let e = w.lines_of_next.ensures.bound in
          record {
            value = covered_more c.args.line.now c.loop-at.at w.in-Some.n c.loop-at.most c.match-next_here.most _ c.loop-at-test.true w.in-Some.ensures
                (w.most-is ∙ w.max-most.ensures ∙ ap (max c.loop-at.most) w.lines_of_next.ensures.value) c.loop-at.invariant.value;
            bound = omega arith;
          }
      | in_default w ↦
          record {
            value = covered_same c.args.line.now c.loop-at.at c.loop-at.most c.match-next_here.most _ c.loop-at-test.true w.in_default.ensures w.most-is c.loop-at.invariant.value;
            bound = omega arith;
          }
    ]
