use Rattle.std.proofs.Common.{◌∷◌, [], Err}
use Rattle.cov_attach.proofs.Parts.{told_alone}
use Rattle.cov_attach.proofs.many.run_one.Goals as goal

pub returns-in-Err : goal.returns-in-Err
returns-in-Err g c = record {
  answers = Err c.in-Err.fault ∷ [];
  sessions = (c.in-Err.ensures.session, c.in-Err.ensures.cause, tt);
  told = told_alone c.args.part.now.first c.in-Err.fault;
}
