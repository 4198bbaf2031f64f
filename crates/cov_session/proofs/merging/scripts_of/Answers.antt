use Rattle.std.proofs.Common.{subst}
use Rattle.cov_book.specs.Stands.{TellsSum}
use Rattle.cov_session.specs.Merging.{tape_fault}
use Rattle.cov_session.proofs.Tapes.{never_past}
use Rattle.cov_session.proofs.merging.scripts_of.Goals as goal

pub unreachable-requires : goal.unreachable-requires
unreachable-requires c =
    let frames = c.args.frames.now in
    let fault = c.in-Err-Sum in
    never_past frames fault.field-0-0 c.requires (subst (TellsSum (tape_fault frames)) fault.field-0-is fault.ensures.sum)
