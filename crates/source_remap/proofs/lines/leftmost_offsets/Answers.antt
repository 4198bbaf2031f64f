use Rattle.std.proofs.Common.{[], arith, ap, ◌∙◌, length}
use Rattle.source_remap.proofs.Anchors.{replicate_counted, found_step, found_same-right, found_same-past}
use Rattle.source_remap.proofs.lines.leftmost_offsets.Goals as goal
use Rattle.source_remap.proofs.lines.leftmost_offsets.Goals.{then-line-least+then-landing-least+in_ok-push, else-line-least, else-line-least-via-then-line-least+else-landing-least, else-line-least-via-else-line-least}

pub loop-landing-init : goal.loop-landing-init
loop-landing-init c = c.in_ok-found.ensures ∙ replicate_counted [] 0 (length c.args.least.now)

pub loop-landing-preserved : goal.loop-landing-preserved
loop-landing-preserved c =
    elim c.if-line-least.branch [
      | then-line-least+then-landing-least+in_ok-push w ↦
          ap (λ v. v.items) w.found-is
          ∙ found_step c.args.landings.now c.loop-landing.landing-index (length c.args.least.now) c.args.least.now w.index_mut.result.now w.push.new.self c.loop-landing.found.items
          c.loop-landing-test.true w.if-line-least.true (omega arith) c.requires w.if-landing-least.true c.loop-landing.invariant w.index_mut.ensures.value w.in_ok-push.ensures.ok
      | else-line-least w ↦
          elim w.else-line-least.branch [
            | else-line-least-via-then-line-least+else-landing-least w' ↦
                ap (λ v. v.items) w.found-is
                ∙ found_same-right c.args.landings.now c.loop-landing.landing-index (length c.args.least.now) c.args.least.now c.loop-landing.found.items
                c.loop-landing-test.true w'.if-line-least.true (omega arith) c.requires w'.if-landing-least.false c.loop-landing.invariant
            | else-line-least-via-else-line-least w' ↦
                ap (λ v. v.items) w.found-is
                ∙ found_same-past c.args.landings.now c.loop-landing.landing-index (length c.args.least.now) c.loop-landing.found.items
                c.loop-landing-test.true w'.if-line-least.false c.loop-landing.invariant
          ]
    ]
