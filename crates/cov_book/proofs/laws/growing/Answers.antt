use Rattle.cov_book.proofs.Keyed.{entries-more}
use Rattle.cov_book.proofs.laws.growing.Goals as goal

pub returns : goal.returns
returns c = entries-more
