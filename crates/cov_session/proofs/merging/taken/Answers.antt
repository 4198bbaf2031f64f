use Rattle.std.proofs.Common.{ap, ◌∙◌}
use Rattle.cov_model.specs.Sums.{fits}
use Rattle.cov_session.proofs.Tapes.{frames_fit}
use Rattle.cov_session.proofs.merging.taken.Goals as goal

pub scripts_of-requires : goal.scripts_of-requires
scripts_of-requires c = ap fits c.between-frames.ensures ∙ frames_fit c.args.tape.now c.args.since c.args.played c.requires.fits
