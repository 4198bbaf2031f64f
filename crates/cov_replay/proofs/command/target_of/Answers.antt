use Rattle.std.proofs.Common.{subst}
use Rattle.cov_session.specs.Merging.{TellsFault, tape_fault}
use Rattle.cov_session.proofs.Tapes.{never_past}
use Rattle.cov_replay.proofs.command.target_of.Goals as goal

pub unreachable-requires : goal.unreachable-requires
unreachable-requires c =
    never_past c.args.tape.items c.in-Err-Sum.field-0-0 c.requires (subst (TellsFault (tape_fault c.args.tape.items)) c.in-Err-Sum.field-0-is c.in-Err-Sum.ensures.sum)
