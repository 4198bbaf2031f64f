use Rattle.std.proofs.Common.{◌∷◌, [], ◌++◌, sym, ap, ◌∙◌}
use Rattle.cov_normal.specs.Parts.{counts_otherwise}
use Rattle.cov_normal.proofs.Steps.{filter-kept, filter-left}
use Rattle.cov_normal.proofs.flat_list.listed.Goals as goal
use Rattle.cov_normal.proofs.flat_list.listed.Goals.{then-is_told+in_ok-push-2, else-is_told}

pub loop-i-preserved : goal.loop-i-preserved
loop-i-preserved g c =
    let root = c.args.root in
    let runs = c.args.runs.now.runs in
    let run = c.get-run.result in
    elim c.if-is_told.branch [
      | then-is_told+in_ok-push-2 w ↦
          w.ranges-is ∙ w.in_ok-push-2.ensures.ok ∙ ap (λ rs. rs ++ run ∷ []) c.loop-i.invariant
          ∙ sym (ap (λ rs. root ∷ rs) (filter-kept (counts_otherwise root) runs c.loop-i.i run c.get-run.ensures.value (sym c.is_told.ensures ∙ w.if-is_told.true)))
      | else-is_told w ↦
          w.ranges-is ∙ c.loop-i.invariant
          ∙ sym (ap (λ rs. root ∷ rs) (filter-left (counts_otherwise root) runs c.loop-i.i run c.get-run.ensures.value (sym c.is_told.ensures ∙ w.if-is_told.false)))
    ]
