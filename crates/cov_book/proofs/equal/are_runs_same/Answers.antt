use Rattle.std.proofs.lemmas.Bool.Decides.{same_from_decides}
use Rattle.cov_book.specs.Told.{same_runs}
use Rattle.cov_book.proofs.Alike.{runs-Decides}
use Rattle.cov_book.proofs.equal.are_runs_same.Goals as goal

pub returns : goal.returns
returns c = same_from_decides c.agrees.result (same_runs c.args.a.now c.args.b.now) c.agrees.ensures (runs-Decides c.args.a.now c.args.b.now)
