use Rattle.std.proofs.Common.{arith, ap, ◌∙◌}
use Rattle.source_remap.proofs.Anchors.{replicate_counted, least_step, least_same}
use Rattle.source_remap.proofs.lines.least_columns.Goals as goal
use Rattle.source_remap.proofs.lines.least_columns.Goals.{then-line-len, else-line-len}

pub loop-landing-init : goal.loop-landing-init
loop-landing-init c = c.in_ok-least.ensures.items_if_clones_equal (λ y e. e) ∙ replicate_counted 4294967295 0 c.args.lines

pub loop-landing-preserved : goal.loop-landing-preserved
loop-landing-preserved c =
    elim c.if-line-len.branch [
      | then-line-len w ↦
          ap (λ v. v.items) w.least-is
          ∙ least_step c.args.landings.now c.loop-landing.landing-index c.args.lines w.index.result.now w.min.result c.loop-landing.least.items c.loop-landing-test.true (omega arith)
          c.loop-landing.invariant w.index.ensures w.min.ensures
      | else-line-len w ↦
          ap (λ v. v.items) w.least-is
          ∙ least_same c.args.landings.now c.loop-landing.landing-index c.args.lines c.loop-landing.least.items c.loop-landing-test.true (omega arith) c.loop-landing.invariant
    ]
