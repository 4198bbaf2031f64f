use Rattle.std.proofs.Common.{arith, ◌∙◌, refl, ap, ◌++◌, ◌∷◌, []}
use Rattle.std.specs.Prelude.{length}
use Rattle.cov_steps.proofs.Ends.{pushed-same, pushed-behind, pushed-first, no-run}
use Rattle.cov_steps.proofs.pushing.push_run.Goals as goal
use Rattle.cov_steps.proofs.pushing.push_run.Goals.{in-Some+else-last-run, in_default}

pub returns-then-last-run : goal.returns-then-last-run
returns-then-last-run c =
    pushed-same c.args.runs.now.items _ c.in-Some.last.now c.args.run (omega (arith, c.in-Some.ensures.variant.0 refl)) c.in-Some.ensures.value c.if-last-run.true

pub returns : goal.returns
returns c =
    elim c.match-last_mut.branch [
      | in-Some+else-last-run w ↦
          c.in_ok-push.ensures.items
          ∙ pushed-behind c.args.runs.now.items c.match-last_mut.runs.items _ w.in-Some.last.now c.args.run (omega (arith, w.in-Some.ensures.variant.0 refl))
          w.in-Some.ensures.value w.if-last-run.false (ap (λ v. v.items) w.runs-is)
      | in_default w ↦
          c.in_ok-push.ensures.items ∙ ap (λ v. v.items ++ c.args.run ∷ []) w.runs-is
          ∙ pushed-first c.args.runs.now.items c.args.run (no-run (length c.args.runs.now.items) (λ some. w.in_default.ensures.variant.1 (omega (arith, some))))
    ]
