use Rattle.cov_book.proofs.Parts.{any_order}
use Rattle.cov_book.proofs.laws.any_order.Goals as goal

pub returns : goal.returns
returns c = any_order
