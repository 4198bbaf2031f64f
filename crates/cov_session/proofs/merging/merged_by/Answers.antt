use Rattle.std.proofs.Common.{◌∷◌, ◌+◌, ◌++◌, [], sym, ap, ◌∙◌, subst, take, drop}
use Rattle.std.proofs.lemmas.List.{drop_more, take_more}
use Rattle.cov_book.specs.Stands.{StandsFor}
use Rattle.cov_session.specs.Merging.{tape_fault}
use Rattle.cov_session.proofs.Tapes.{one_added}
use Rattle.cov_session.proofs.merging.merged_by.Goals as goal

pub loop-frame-preserved : goal.loop-frame-preserved
loop-frame-preserved g c =
    let frames = c.args.frames.now in
    let k = c.loop-frame.frame-index in
    let frame = c.frame-item.result in
    let more = drop_more frames k frame c.loop-frame-test.true ∙ ap (λ x. x ∷ drop (k + 1) frames) (sym c.frame-item.is) in
    let grown = take_more frames k frame c.loop-frame-test.true ∙ ap (λ x. take k frames ++ x ∷ []) (sym c.frame-item.is) in
    let added = c.in_ok-add.ensures.ok (take k frames) c.loop-frame.invariant.stands in
    record {
      stands = subst (StandsFor c.add.new.self) (sym grown) added.1;
      faults = one_added (take k frames) (take (k + 1) frames) (drop k frames) frame (drop (k + 1) frames) (tape_fault frames) more grown added.0 c.loop-frame.invariant.faults;
    }
